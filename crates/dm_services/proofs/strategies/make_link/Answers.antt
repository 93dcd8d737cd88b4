use Rattle.dm_services.proofs.Calls.{linking-served}
use Rattle.dm_services.proofs.strategies.make_link.Goals as goal

pub returns-in-Ok : goal.returns-in-Ok
returns-in-Ok c = linking-served _ _ _ _ _ _ c.parts.view_is c.in-Ok.ensures.memory c.answer.ensures
