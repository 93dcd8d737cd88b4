use Rattle.dm_c.specs.calls.Calls.{refused}
use Rattle.dm_c.proofs.calls.machines.close_input.Goals as goal

pub returns-in-Err : goal.returns-in-Err
returns-in-Err c = refused c.in-Err.refusal c.status_of.ensures c.in-Err.ensures.err
