use Rattle.dm_services.proofs.Calls.{allocation-served, allocation-refused}
use Rattle.dm_services.proofs.allocation.allocate.Goals as goal

pub returns-in-Ok : goal.returns-in-Ok
returns-in-Ok c = allocation-served _ _ _ _ _ _ c.parts.view_is c.psp-owner.ensures c.in-Ok.ensures.memory
    c.answer.ensures

pub returns-in-Err : goal.returns-in-Err
returns-in-Err c = allocation-refused _ _ _ _ _ _ _ c.parts.view_is c.psp-owner.ensures c.in-Err.ensures.memory
    c.refuse.ensures c.answer-in-Err.ensures
