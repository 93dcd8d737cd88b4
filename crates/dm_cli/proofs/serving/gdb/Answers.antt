use Rattle.std.proofs.Common.{refl}
use Rattle.std.proofs.KnownBytes.{Keeps-refl}
use Rattle.std.proofs.lemmas.Result.{err_from_is_err_and}
use Rattle.dm_cli.specs.Reads.{all_read}
use Rattle.dm_cli.specs.Serving.{not_served, unbuffered}
use Rattle.dm_cli.proofs.Served.{conversation_tells, serves_with}
use Rattle.dm_cli.proofs.Unread.{read_ok}
use Rattle.dm_cli.proofs.serving.gdb.Goals as goal

pub returns-in_err-machine-clause-does : goal.returns-in_err-machine-clause-does
returns-in_err-machine-clause-does g c =
    let p = err_from_is_err_and c.from_residual.result c.from_residual.ensures.1 in
    rw (p.1, p.2) (not_served _ c.in_err-machine.ensures.fault (Keeps-refl _) refl)

pub returns-in_default-clause-does : goal.returns-in_default-clause-does
returns-in_default-clause-does g c = unbuffered (Keeps-refl _) refl

pub returns-in_default-clause-reads : goal.returns-in_default-clause-reads
returns-in_default-clause-reads g c = all_read (read_ok _ _ c.in_ok-machine.ensures.reads) tt

pub returns-clause-does : goal.returns-clause-does
returns-clause-does g c = serves_with _ _ _ _ _ _ _ _ _ c.in_ok-machine.ensures.started
    (rw c.in-Ok.ensures at c.serve_with.ensures)

pub returns-in_err-machine-clause-reads : goal.returns-in_err-machine-clause-reads
returns-in_err-machine-clause-reads g c =
    let p = err_from_is_err_and c.from_residual.result c.from_residual.ensures.1 in
    rw (p.1, p.2) c.in_err-machine.ensures.reads

pub returns-clause-reads : goal.returns-clause-reads
returns-clause-reads g c = all_read (read_ok _ _ c.in_ok-machine.ensures.reads)
    (conversation_tells _ _ _ _ _ _ _ _ c.serve_with.ensures)
