-- That steps can be made, and what they leave.
use Rattle.std.specs.Prelude.{None, Option, Some, ◌≡◌}
use Rattle.dm_space.specs.declared.entry_points.EntryPoint.{EntryPoint}
use Rattle.dm_space.specs.declared.entry_points.EntryPoint.TheVariants as entry_point
use Rattle.dm_space.specs.EntryPoints.{entry_point_at}
use Rattle.dm_cpu.specs.Guest.{guest}
use Rattle.dm_laws.specs.instructions.WellFormed.{IsWellFormed}
use Rattle.dm_services.specs.state.State.{Answer, State}
use Rattle.dm_machine.specs.Step.{MakesStep}

-- no service of DOS acts at this entry point, or there is none here
abbrev pub IsNoService : Option EntryPoint → Type 0
IsNoService None = Unit {0}
IsNoService (Some (entry_point.Service service)) = ⊥
IsNoService (Some (entry_point.Driver driver)) = Unit {0}

-- no state is without a step: the program has ended, a driver acts, the bytes at CS:IP begin with an instruction, or
-- they begin with none. It is said by two negations, as the definition does not say how to find out which: `decode`
-- does. (That services have results is proved by `serve` of `dm_services`, which returns one unless memory runs out)
abbrev pub StepIsPossible : Type 0
StepIsPossible = (s : State) → IsNoService (entry_point_at s.cpu.cs s.cpu.ip) → ((x : Answer) → MakesStep s x → ⊥) → ⊥

-- where neither a service nor a driver acts, a step from a well-formed state leaves one
abbrev pub InstructionsKeepStatesWellFormed : Type 0
InstructionsKeepStatesWellFormed =
    (s : State) (x : Answer) → entry_point_at s.cpu.cs s.cpu.ip ≡ None → MakesStep s x →
    IsWellFormed (guest s.cpu s.memory)
    → IsWellFormed (guest x.state.cpu x.state.memory)
