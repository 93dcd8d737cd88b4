use Rattle.dm_proc.proofs.Loaded.{keep_loaded}
use Rattle.dm_services.proofs.Endings.{loaded, executing-started, executing-refused}
use Rattle.dm_services.proofs.processes.execute.Goals as goal

pub invariant_of-parts : goal.invariant_of-parts
invariant_of-parts c = (
  c.parts.invariant.0,
  (keep_loaded.starting _ _ _ _ _ _ _ _ _ _ c.exec.ensures
      (loaded _ _ c.parts.view_is c.requires c.parts.invariant.1)).parents,
)

pub returns-in-Ok-clause-executing : goal.returns-in-Ok-clause-executing
returns-in-Ok-clause-executing c = executing-started _ _ _ _ _ _ c.parts.view_is c.in-Ok.ensures c.count.ensures

pub returns-in-Err-clause-executing : goal.returns-in-Err-clause-executing
returns-in-Err-clause-executing c = executing-refused _ _ _ _ _ _ _ c.parts.view_is c.in-Err.ensures
    c.refuse_program.ensures
