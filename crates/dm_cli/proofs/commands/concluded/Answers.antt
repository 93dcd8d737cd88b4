use Rattle.std.proofs.Common.{refl}
use Rattle.dm_cli.specs.Messages.{silent, faulty}
use Rattle.dm_cli.proofs.commands.concluded.Goals as goal

pub returns-in-Ok-clause-line : goal.returns-in-Ok-clause-line
returns-in-Ok-clause-line g c = rw c.in-Ok.is (silent refl)

pub returns-in-Err-clause-line : goal.returns-in-Err-clause-line
returns-in-Err-clause-line g c = rw c.in-Err.is (faulty _ c.report_fault.ensures.line)
