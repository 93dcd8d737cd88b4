use Rattle.std.proofs.Common.{◌<◌, sym, subst}
use Rattle.dm_proc.specs.Processes.{Processes}
use Rattle.dm_proc.proofs.Loaded.{keep_loaded}
use Rattle.dm_services.proofs.Endings.{loaded, terminating-of}
use Rattle.dm_services.proofs.processes.terminate.Goals as goal

pub returns-clause-terminating : goal.returns-clause-terminating
returns-clause-terminating c = terminating-of _ _ _ _ _ _ _ _ c.parts.view_is c.terminate-ended.ensures
    c.conclude.ensures.answer

pub returns-clause-program : goal.returns-clause-program
returns-clause-program c =
    let after = keep_loaded.terminating _ _ _ _ _ _ _ _ _ c.terminate-ended.ensures
    (loaded _ _ c.parts.view_is c.requires c.parts.invariant.1) in
    subst (λ (ps : Processes). 0 < ps.present) (sym c.conclude.ensures.program) after.present
