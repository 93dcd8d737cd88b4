use Rattle.dm_services.proofs.Calls.{freeing-served, freeing-refused}
use Rattle.dm_services.proofs.allocation.free.Goals as goal

pub returns-in-Ok : goal.returns-in-Ok
returns-in-Ok c = freeing-served _ _ _ _ _ c.parts.view_is c.in-Ok.ensures.memory c.answer.ensures

pub returns-in-Err : goal.returns-in-Err
returns-in-Err c = freeing-refused _ _ _ _ _ _ c.parts.view_is c.in-Err.ensures.memory c.refuse.ensures
    c.answer-in-Err.ensures
