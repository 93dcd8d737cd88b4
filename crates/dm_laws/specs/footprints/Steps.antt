-- What a step of the machine depends on where neither a service nor a driver acts.
use Rattle.std.specs.Prelude.{◌≡◌, ℕ, All, None}
use Rattle.dm_space.specs.EntryPoints.{entry_point_at}
use Rattle.dm_ins.specs.declared.ins.Ins.{Ins}
use Rattle.dm_ins.specs.Ins.{BeginsWith}
use Rattle.dm_cpu.specs.Guest.{Guest, guest}
use Rattle.dm_services.specs.state.State.{State}
use Rattle.dm_machine.specs.Step.{fetched, instructed, MakesStep}
use Rattle.dm_laws.specs.footprints.Footprints.{seen, AgreesWhereRead, DoesTheSame}
use Rattle.dm_laws.specs.footprints.Runs.{own}

-- the registers and the memory of a state
abbrev pub guest_of : State → Guest
guest_of s = guest s.cpu s.memory

-- where neither a service nor a driver acts in state s, but an instruction: state t whose program has not ended makes a
-- step by the same instruction, which does the same there, if t agrees with s on registers, on the map, on the bytes
-- that the instruction is decoded from, and on those that it reads. All else of both may differ
abbrev pub StepsDependOnReads : Type 0
StepsDependOnReads =
    (s t : State) (i : Ins) (length : ℕ) → entry_point_at s.cpu.cs s.cpu.ip ≡ None → t.exited ≡ None →
    BeginsWith (fetched s.memory s.cpu) i length
    → AgreesWhereRead (guest_of s) (guest_of t) i length → All (λ f. seen t.memory f ≡ seen s.memory f)
    (own s.cpu length)
    → MakesStep t (instructed t i length) × DoesTheSame (guest_of s) (guest_of t) i length
