use Rattle.dm_services.proofs.Endings.{overlaying-loaded, overlaying-refused}
use Rattle.dm_services.proofs.processes.overlay.Goals as goal

pub returns-in-Ok-clause-overlaying : goal.returns-in-Ok-clause-overlaying
returns-in-Ok-clause-overlaying c = overlaying-loaded _ _ _ _ c.parts.view_is c.in-Ok.ensures c.answer.ensures

pub returns-in-Err-clause-overlaying : goal.returns-in-Err-clause-overlaying
returns-in-Err-clause-overlaying c = overlaying-refused _ _ _ _ _ c.parts.view_is c.in-Err.ensures
    c.refuse_program.ensures
