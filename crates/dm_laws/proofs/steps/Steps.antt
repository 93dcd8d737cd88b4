-- Steps.
use Rattle.std.proofs.Common.{◌≡◌, ℕ, Option, Some, None, refl, sym, subst}
use Rattle.dm_space.specs.declared.entry_points.EntryPoint.{EntryPoint}
use Rattle.dm_space.specs.declared.entry_points.EntryPoint.TheVariants as entry_point
use Rattle.dm_space.specs.EntryPoints.{entry_point_at}
use Rattle.dm_cpu.specs.Guest.{Guest, guest}
use Rattle.dm_exec.specs.declared.effect.Next.{Next}
use Rattle.dm_exec.specs.declared.effect.Next.TheVariants.{Go, Halt}
use Rattle.dm_exec.specs.Effect.{effect, next_of}
use Rattle.dm_laws.specs.instructions.WellFormed.{IsWellFormed}
use Rattle.dm_laws.proofs.instructions.Spelled.{keeps_well_formed}
use Rattle.dm_services.specs.declared.state.stop.Stop.TheVariants.{Exited, Unlisted}
use Rattle.dm_services.specs.state.State.{Answer, State, stop_at}
use Rattle.dm_drivers.specs.Drivers.{driven}
use Rattle.dm_machine.specs.Step.{Acts, ActsUnlessEnded, Instructs, MakesStep, after, instructed}
use Rattle.dm_laws.specs.steps.Steps.{InstructionsKeepStatesWellFormed, IsNoService, StepIsPossible}

acts : (s : State) (e : Option EntryPoint) → IsNoService e → ((x : Answer) → Acts s e x → ⊥) → ⊥
acts s None n none = none (stop_at Unlisted s) (Instructs.unlisted (λ i length b. none (instructed s i length)
    (Instructs.listed i length b refl)) refl)
acts s (Some (entry_point.Service service)) n none = n
acts s (Some (entry_point.Driver driver)) n none = none (driven s driver) refl

possibly : (s : State) (o : Option ℕ) → IsNoService (entry_point_at s.cpu.cs s.cpu.ip) →
    ((x : Answer) → ActsUnlessEnded s o x → ⊥) → ⊥
possibly s (Some code) n none = none (stop_at (Exited code) s) refl
possibly s None n none = acts s (entry_point_at s.cpu.cs s.cpu.ip) n none

pub possible : StepIsPossible
unfolding MakesStep
possible s n none = possibly s s.exited n none

-- what is left
IsLeft : Answer → Type 0
IsLeft x = IsWellFormed (guest x.state.cpu x.state.memory)

after-kept : (s : State) (n : Next) (g : Guest) → IsWellFormed (guest s.cpu s.memory) → IsWellFormed g →
    IsLeft (after s n g)
unfolding IsLeft
after-kept s Go g w v = v
after-kept s Halt g w v = w

instructs-kept : (s : State) (x : Answer) → Instructs s x → IsWellFormed (guest s.cpu s.memory) → IsLeft x
unfolding IsLeft
instructs-kept s x (Instructs.listed i length b e) w =
    subst IsLeft (sym e) (after-kept s (next_of i.action.mnemonic) (effect (guest s.cpu s.memory) i length) w
    (keeps_well_formed (guest s.cpu s.memory) i _ length w b.spells))
instructs-kept s x (Instructs.unlisted n e) w = subst IsLeft (sym e) w

unless-kept : (s : State) (o : Option ℕ) (x : Answer) → entry_point_at s.cpu.cs s.cpu.ip ≡ None →
    ActsUnlessEnded s o x → IsWellFormed (guest s.cpu s.memory) → IsLeft x
unfolding IsLeft
unless-kept s (Some code) x n a w = subst IsLeft (sym a) w
unless-kept s None x n a w = instructs-kept s x (let F : Option EntryPoint → Type 0 = λ e. Acts s e x in subst F n a) w

pub kept : InstructionsKeepStatesWellFormed
unfolding MakesStep IsLeft
kept s x n a w = unless-kept s s.exited x n a w
