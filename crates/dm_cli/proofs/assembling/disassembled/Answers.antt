use Rattle.std.proofs.Common.{arith}
use Rattle.std.proofs.lemmas.Result.{err_from_is_err_and}
use Rattle.dm_cli.specs.Assembling.{bytes_unread, bytes_too_long, bytes_no_memory}
use Rattle.dm_cli.proofs.assembling.disassembled.Goals as goal

pub returns-in_err-bytes-clause-fault : goal.returns-in_err-bytes-clause-fault
returns-in_err-bytes-clause-fault g c =
    let p = err_from_is_err_and c.from_residual.result c.from_residual.ensures.1 in
    rw (p.1, p.2) (bytes_unread _ c.in_err-bytes.ensures.fault)

pub returns-then-len-gt-MOST_PROGRAM_BYTES-clause-fault : goal.returns-then-len-gt-MOST_PROGRAM_BYTES-clause-fault
returns-then-len-gt-MOST_PROGRAM_BYTES-clause-fault g c = bytes_too_long _ c.in_ok-bytes.ensures.bytes (omega (
  arith,
  c.len.ensures,
  c.if-len-gt-MOST_PROGRAM_BYTES.true,
  c.in_ok-bytes.bytes.ok,
))

pub returns-clause-fault : goal.returns-clause-fault
returns-clause-fault g c = bytes_no_memory
