-- The first program has room, or none
use Rattle.std.proofs.Common.{◌≡◌, List, ℕ, length, Option, Some, refl, sym, subst, Result, Ok, Err}
use Rattle.dm_space.specs.Memory.{Memory}
use Rattle.dm_load.specs.Image.{IsGood}
use Rattle.dm_proc.specs.declared.refusal.ExecRefusal.{ExecRefusal}
use Rattle.dm_cpu.specs.declared.cpu.Cpu.{Cpu}
use Rattle.dm_proc.specs.Programs.{program_of}
use Rattle.dm_proc.specs.Request.{Passed}
use Rattle.dm_proc.specs.Environment.{environment}
use Rattle.dm_proc.specs.Processes.{Processes, Begins, PlanRefused}
use Rattle.dm_proc.proofs.OneAnswer.{load_unique}
use Rattle.dm_services.specs.state.State.{State}
use Rattle.dm_machine.specs.Start.{HasNoRoom}

pub no_room : (s v : State) (name file image variables : List ℕ) (e : ExecRefusal) → v ≡ s →
    program_of v.programs name ≡ Some file → image ≡ file → IsGood file → variables ≡ v.variables →
    PlanRefused v.upper v.memory v.strategy (length (environment variables name)) image e → HasNoRoom s name
no_room s v name file image variables e is found same good from refused =
    let here : PlanRefused v.upper v.memory v.strategy (length (environment v.variables name)) file e
    = subst (λ i. PlanRefused v.upper v.memory v.strategy (length (environment v.variables name)) i e) same
    (subst (λ vs. PlanRefused v.upper v.memory v.strategy (length (environment vs name)) image e) from refused) in
    subst (λ w. HasNoRoom w name) is (record { file = file; found = found; good = good; why = e; refused = here })

served_clash : (r q : Result (Processes × Cpu) ExecRefusal) (c : Processes × Cpu) (e : ExecRefusal) → r ≡ Ok c →
    q ≡ Err e → r ≡ q → ⊥
served_clash r q c e f g h = cc

found-same : (x y : List ℕ) (o : Option (List ℕ)) → o ≡ Some x → o ≡ Some y → x ≡ y
found-same x y o e f = cc

-- a program that was loaded has room
pub had_room : (s v : State) (name file image variables : List ℕ) (a : Passed) (d : Cpu) (qs : Processes) (n : Memory) →
    v ≡ s → program_of v.programs name ≡ Some file → image ≡ file → variables ≡ v.variables →
    Begins v.upper v.memory v.strategy image variables name a qs d n → HasNoRoom s name → ⊥
had_room s v name file image variables a d qs n is found same from begins none =
    let w : HasNoRoom v name = subst (λ x. HasNoRoom x name) (sym is) none in
    let other : file ≡ w.file = found-same file w.file _ found w.found in
    let here : Begins v.upper v.memory v.strategy w.file v.variables name a qs d n
    = subst (λ i. Begins v.upper v.memory v.strategy i v.variables name a qs d n) other
    (subst (λ i. Begins v.upper v.memory v.strategy i v.variables name a qs d n) same
    (subst (λ vs. Begins v.upper v.memory v.strategy image vs name a qs d n) from begins)) in
    served_clash (Ok (qs, d)) (Err w.why) (qs, d) w.why refl refl (load_unique v.upper v.memory v.strategy w.file
    v.variables name a (Ok (qs, d)) (Err w.why) n v.memory here (refl, w.refused)).0
