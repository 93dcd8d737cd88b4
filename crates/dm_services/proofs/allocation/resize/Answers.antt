use Rattle.dm_services.proofs.Calls.{resizing-served, resizing-refused}
use Rattle.dm_services.proofs.allocation.resize.Goals as goal

pub returns-in-Ok : goal.returns-in-Ok
returns-in-Ok c = resizing-served _ _ _ _ _ c.parts.view_is c.in-Ok.ensures.memory c.answer.ensures

pub returns-in-Err : goal.returns-in-Err
returns-in-Err c = resizing-refused _ _ _ _ _ _ c.parts.view_is c.in-Err.ensures.memory c.refuse.ensures
    c.answer-in-Err.ensures
