use Rattle.std.proofs.Common.{refl}
use Rattle.dm_c.specs.calls.Calls.{refused}
use Rattle.dm_c.proofs.calls.machines.run.Goals as goal

pub returns-in-Err : goal.returns-in-Err
returns-in-Err c = refused c.in-Err.refusal c.status_of.ensures (c.in-Err.ensures.err.0, c.in-Err.ensures.err.1, refl)
