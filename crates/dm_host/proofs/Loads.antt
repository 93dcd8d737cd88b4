-- From what a setup's test and a session's beginning say to what loading says.
use Rattle.std.proofs.Common.{◌≡◌, refl, ap, sym, ◌∙◌, subst, List, ℕ, Result, Ok, Err, IfErr, Option, Some, None}
use Rattle.std.proofs.lemmas.Option.{none-some, same_Some}
use Rattle.dm_services.specs.state.State.{State}
use Rattle.dm_load.specs.Image.{IsGood}
use Rattle.dm_proc.specs.Programs.{program_of}
use Rattle.dm_machine.specs.Start.{IsBadProgram, HasNoRoom}
use Rattle.dm_machine.specs.declared.loading.LoadError.{LoadError}
use Rattle.dm_machine.specs.declared.loading.LoadError.TheVariants as why
use Rattle.dm_debug.specs.Debugged.{Debugged}
use Rattle.dm_host.specs.declared.refusal.Refusal.{Refusal}
use Rattle.dm_host.specs.declared.host.Stage.{Stage}
use Rattle.dm_host.specs.declared.host.Stage.TheVariants.{Fresh, Loaded, Spent}
use Rattle.dm_host.specs.Setups.{Prepared, IsAddFault}
use Rattle.dm_host.specs.Hosts.{Hosted, with_stage}
use Rattle.dm_host.specs.Loading as loading
use Rattle.dm_host.specs.Loading.{IsUnadded, refused, Loads, IsUnloaded}
use Rattle.dm_host.specs.inner.Loading.{IsBegun, IsUnbegun, no_room, no_memory, IsUntested, bad_name, long_tail, no_program, IsTestedGood}

pub unadded : {A : Type 0} (h : Hosted) (s : Prepared) (name : List ℕ) (r : Result A Refusal) → h.stage ≡ Fresh s →
    IfErr r (IsAddFault s name) → IfErr r (IsUnadded h name)
unadded h s name (Ok x) fresh fault = fault
unadded h s name (Err e) fresh fault = refused s fresh fault

pub untested : (h : Hosted) (s : Prepared) (name tail input : List ℕ) (why : Refusal) → h.stage ≡ Fresh s →
    IsUntested s name tail why → IsUnloaded h name tail input why h
untested h s name tail input why fresh (bad_name bad is) = loading.bad_name (s, fresh) bad is refl
untested h s name tail input why fresh (long_tail good long is) = loading.long_tail (s, fresh) good long is refl
untested h s name tail input why fresh (no_program good short none) = loading.no_program s fresh good short none refl

pub begun_loads : (h : Hosted) (s : Prepared) (name tail input : List ℕ) (d : Debugged) → h.stage ≡ Fresh s →
    IsBegun s name tail input d → Loads h name tail input (with_stage h (Loaded d))
begun_loads h s name tail input d fresh begun =
    record {
      before = s;
      start = begun.start;
      machine = begun.machine;
      fresh = fresh;
      new = begun.new;
      loaded = begun.loaded;
      is = ap (λ x. with_stage h (Loaded x)) begun.is;
    }

unbegun_is : (h g : Hosted) (s : Prepared) (name tail input : List ℕ) (why : Refusal) → h.stage ≡ Fresh s →
    IsTestedGood s name tail → IsUnbegun s name input why
    → g ≡ with_stage h Spent → IsUnloaded h name tail input why g
unbegun_is h g s name tail input why fresh good (no_room m new short is) left =
    loading.no_room s m fresh good.name_is good.short good.found new short is left
unbegun_is h g s name tail input why fresh good (no_memory is) left =
    loading.no_memory s fresh good.name_is good.short good.found is left

fresh_of : Stage → Option Prepared
fresh_of (Fresh s) = Some s
fresh_of _ = None

pub unbegun_unloaded : (h : Hosted) (s t : Prepared) (stage : Stage) (name tail input : List ℕ) (why : Refusal) →
    h.stage ≡ Fresh s → h.stage ≡ Fresh t → IsTestedGood s name tail
    → IsUnbegun t name input why → stage ≡ Spent → IsUnloaded h name tail input why (with_stage h stage)
unfolding fresh_of
unbegun_unloaded h s t stage name tail input why first second good unbegun is =
    let same : s ≡ t = same_Some s t (sym (ap fresh_of first) ∙ ap fresh_of second) in
    unbegun_is h (with_stage h stage) t name tail input why second (subst (λ (x : Prepared). IsTestedGood x name tail)
    same good) unbegun (ap (λ x. with_stage h x) is)

-- a program that is found and good is only refused for want of room
pub short_alone : (m : State) (name file : List ℕ) (e : LoadError) → program_of m.programs name ≡ Some file →
    IsGood file
    → (e ≡ why.NotFound → program_of m.programs name ≡ None) → (e ≡ why.BadFormat → IsBadProgram m name) →
    (e ≡ why.Short → HasNoRoom m name) → HasNoRoom m name
short_alone m name file why.NotFound found good none bad short = absurd (none-some file (sym (none refl) ∙ found))
short_alone m name file why.BadFormat found good none bad short =
    let b = bad refl in absurd (b.bad (subst IsGood (same_Some file b.file (sym found ∙ b.found)) good))
short_alone m name file why.Short found good none bad short = short refl
