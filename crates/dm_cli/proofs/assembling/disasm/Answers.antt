use Rattle.std.proofs.Common.{refl}
use Rattle.std.proofs.KnownBytes.{Keeps-refl}
use Rattle.std.proofs.lemmas.Result.{err_from_is_err_and}
use Rattle.dm_cli.specs.Assembling.{listed, partly_listed, not_listed}
use Rattle.dm_cli.specs.Reads.{all_read}
use Rattle.dm_cli.proofs.Unread.{read_ok}
use Rattle.dm_cli.proofs.assembling.disasm.Goals as goal

pub returns-in_err-text-clause-does : goal.returns-in_err-text-clause-does
returns-in_err-text-clause-does g c =
    let p = err_from_is_err_and c.from_residual.result c.from_residual.ensures.1 in
    rw (p.1, p.2) (not_listed _ c.in_err-text.ensures.fault (Keeps-refl _) refl)

pub returns-in-Ok-clause-does : goal.returns-in-Ok-clause-does
returns-in-Ok-clause-does g c = listed _ c.in_ok-text.ensures.lines (rw c.as_slice.ensures.value at c.in-Ok.ensures.ok)
    c.in-Ok.ensures.no_failure

pub returns-clause-does : goal.returns-clause-does
returns-clause-does g c = partly_listed _ _ c.in_ok-text.ensures.lines
    (rw c.as_slice.ensures.value at c.in-Err.ensures.part) c.in-Err.ensures.err refl

pub returns-in_err-text-clause-reads : goal.returns-in_err-text-clause-reads
returns-in_err-text-clause-reads g c =
    let p = err_from_is_err_and c.from_residual.result c.from_residual.ensures.1 in
    rw (p.1, p.2) c.in_err-text.ensures.reads

pub returns-in-Ok-clause-reads : goal.returns-in-Ok-clause-reads
returns-in-Ok-clause-reads g c = all_read (read_ok _ _ c.in_ok-text.ensures.reads) tt

pub returns-clause-reads : goal.returns-clause-reads
returns-clause-reads g c = all_read (read_ok _ _ c.in_ok-text.ensures.reads) tt
