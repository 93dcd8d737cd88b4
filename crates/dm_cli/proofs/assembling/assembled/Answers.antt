use Rattle.std.proofs.lemmas.Result.{err_from_is_err_and}
use Rattle.dm_cli.specs.Assembling.{text_unread}
use Rattle.dm_cli.proofs.Ends.{asm_fault}
use Rattle.dm_cli.specs.Reads.{all_read}
use Rattle.dm_cli.proofs.Unread.{read_ok, text_tells}
use Rattle.dm_cli.proofs.assembling.assembled.Goals as goal

pub returns-in_err-text-clause-fault : goal.returns-in_err-text-clause-fault
returns-in_err-text-clause-fault g c =
    let p = err_from_is_err_and c.from_residual.result c.from_residual.ensures.1 in
    rw (p.1, p.2) (text_unread _ c.in_err-text.ensures.fault)

pub returns-in_err-bytes-clause-fault : goal.returns-in_err-bytes-clause-fault
returns-in_err-bytes-clause-fault g c =
    let p = err_from_is_err_and c.from_residual-in_err-bytes.result c.from_residual-in_err-bytes.ensures.1 in
    rw (p.1, p.2) (asm_fault _ _ _ _ c.in_ok-text.ensures.bytes (rw c.as_slice.ensures.value at
    c.in_err-bytes.ensures.refused))

pub returns-in_err-text-clause-reads : goal.returns-in_err-text-clause-reads
returns-in_err-text-clause-reads g c =
    let p = err_from_is_err_and c.from_residual.result c.from_residual.ensures.1 in
    rw (p.1, p.2) c.in_err-text.ensures.reads

pub returns-in_err-bytes-clause-reads : goal.returns-in_err-bytes-clause-reads
returns-in_err-bytes-clause-reads g c =
    let p = err_from_is_err_and c.from_residual-in_err-bytes.result c.from_residual-in_err-bytes.ensures.1 in
    rw (p.1, p.2) (all_read (read_ok _ _ c.in_ok-text.ensures.reads) (text_tells _))
