use Rattle.std.proofs.Common.{◌<◌, sym, subst}
use Rattle.dm_proc.specs.Processes.{Processes}
use Rattle.dm_proc.proofs.Loaded.{keep_loaded}
use Rattle.dm_services.proofs.Endings.{loaded, keeping-of}
use Rattle.dm_services.proofs.processes.stay_resident.Goals as goal

pub returns-clause-staying : goal.returns-clause-staying
returns-clause-staying c = keeping-of _ _ _ _ _ _ _ _ c.parts.view_is c.byte-code.ensures c.keep-ended.ensures
    c.conclude.ensures.answer

pub returns-clause-program : goal.returns-clause-program
returns-clause-program c =
    let after = keep_loaded.staying _ _ _ _ _ _ _ _ _ _ c.keep-ended.ensures
    (loaded _ _ c.parts.view_is c.requires c.parts.invariant.1) in
    subst (λ (ps : Processes). 0 < ps.present) (sym c.conclude.ensures.program) after.present
