-- Laws of steps and runs: each has one result; one in which neither driver is called does not depend on bytes that no
-- address shows; and room that was reserved is enough. `Neither driver` means neither INT 67h nor the extended memory
-- driver: INT 2Fh may be called.
use Rattle.std.specs.Prelude.{◌≡◌, ◌≢◌, ℕ, ◌+◌, ◌≤◌, ◌<◌, ◌==◌, ◌||◌, not, max, Bool, true, false, List, [], ◌∷◌, length, Option, Some, None}
use Rattle.dm_space.specs.Memory.{Memory, page_bytes, with_blocks}
use Rattle.dm_space.specs.Unseen.{shows, mixed, unseen_as, IsUnseen}
use Rattle.dm_xms.specs.declared.tables.Handle.{Handle}
use Rattle.dm_services.specs.declared.state.stop.Stop.{Stop}
use Rattle.dm_services.specs.declared.state.stop.Stop.TheVariants.{Memory as NoMemory}
use Rattle.dm_services.specs.state.State.{State, Answer, AreConsistent}
use Rattle.dm_services.specs.Laws.{with_change}
use Rattle.dm_space.specs.declared.entry_points.EntryPoint.{EntryPoint}
use Rattle.dm_space.specs.declared.entry_points.EntryPoint.TheVariants as entry_point
use Rattle.dm_space.specs.declared.entry_points.Driver.TheVariants.{ExpandedMemory, Multiplex, ExtendedMemory}
use Rattle.dm_space.specs.EntryPoints.{entry_point_at}
use Rattle.dm_machine.specs.Step.{MakesStep}
use Rattle.dm_machine.specs.Run.{Answers, Goes, IsRun}

-- a step from a state, in which no allocation fails, has one result
abbrev pub StepHasOneAnswer : Type 0
StepHasOneAnswer = (s : State) (x y : Answer) → MakesStep s x → MakesStep s y → x ≡ y

-- n steps from a state, if they can be made, lead to one state
abbrev pub ThereIsOneRun : Type 0
ThereIsOneRun = (s t u : State) (n : ℕ) → Goes s n t → Goes s n u → t ≡ u

-- two runs of at most n steps from one state, in which no allocation fails, stop for the same reason in the same state
abbrev pub RunHasOneStop : Type 0
RunHasOneStop = (s t u : State) (n : ℕ) (a b : Stop) → IsRun s n a t → IsRun s n b u → a ≢ NoMemory → b ≢ NoMemory →
    (a ≡ b) × (t ≡ u)

-- at this entry point (or none) no call can change which memory the program sees: an instruction, a service of DOS, or
-- INT 2Fh; not INT 67h and not the extended memory driver
abbrev pub KeepsWhatIsSeen : Option EntryPoint → Type 0
KeepsWhatIsSeen None = Unit {0}
KeepsWhatIsSeen (Some (entry_point.Service service)) = Unit {0}
KeepsWhatIsSeen (Some (entry_point.Driver Multiplex)) = Unit {0}
KeepsWhatIsSeen (Some (entry_point.Driver ExpandedMemory)) = ⊥
KeepsWhatIsSeen (Some (entry_point.Driver ExtendedMemory)) = ⊥

-- in n steps from s neither INT 67h nor the extended memory driver is called
abbrev pub StaysQuiet : State → ℕ → Type 0
StaysQuiet s n = (k : ℕ) (r : State) → k < n → Goes s k r → KeepsWhatIsSeen (entry_point_at r.cpu.cs r.cpu.ip)

-- n steps in which neither driver is called lead to the same state if memory is changed where no program sees it, and
-- the change stays
abbrev pub UnseenBytesChangeNoStep : Type 0
UnseenBytesChangeNoStep =
    (change : Memory → Memory) → IsUnseen change → (s t : State) (n : ℕ) → StaysQuiet s n →
    Goes s n t → Goes (with_change change s) n (with_change change t)

-- a run in which neither driver is called stops for the same reason in the same state if memory is changed where no
-- program sees it, and the change stays
abbrev pub UnseenBytesChangeNoRun : Type 0
UnseenBytesChangeNoRun =
    (change : Memory → Memory) → IsUnseen change → (s t : State) (n : ℕ) (stop : Stop) → StaysQuiet s n →
    IsRun s n stop t → IsRun (with_change change s) n stop (with_change change t)

-- the state with the bytes `other block` in each block that no window shows: pages of expanded memory, and blocks of
-- extended memory
abbrev pub with_unseen_blocks : (ℕ → List ℕ) → State → State
with_unseen_blocks other s = record s { memory = unseen_as s.memory other }

-- a run in which neither driver is called does not depend on the bytes of the blocks that no window shows, and keeps
-- them
abbrev pub UnseenBlocksChangeNoRun : Type 0
UnseenBlocksChangeNoRun =
    (other : ℕ → List ℕ) (s t : State) (n : ℕ) (stop : Stop) → StaysQuiet s n →
    IsRun s n stop t → IsRun (with_unseen_blocks other s) n stop (with_unseen_blocks other t)

-- memory n has the windows of m, its blocks at the same places, and the same bytes in each block that no window shows
pub record LeavesUnseen (m n : Memory) : Type 0 where
  pub windows : n.windows ≡ m.windows
  pub places : n.blocks.places ≡ m.blocks.places
  pub bytes : (block : ℕ) → shows m.windows block ≡ false → page_bytes n block ≡ page_bytes m block

-- a run in which neither driver is called keeps the windows, and all bytes of blocks that no window shows
abbrev pub RunLeavesUnseen : Type 0
RunLeavesUnseen = (s t : State) (n : ℕ) (stop : Stop) → StaysQuiet s n → IsRun s n stop t →
    LeavesUnseen s.memory t.memory

-- whether the block with this number belongs to one of the handles of extended memory
abbrev pub is_extended : List (Option Handle) → ℕ → Bool
is_extended [] block = false
is_extended (None ∷ handles) block = is_extended handles block
is_extended (Some handle ∷ handles) block = (handle.block == block) || is_extended handles block

-- the memory with the bytes `other block` in each block that belongs to one of the handles of extended memory
abbrev pub extended_as : List (Option Handle) → (ℕ → List ℕ) → Memory → Memory
extended_as handles other m =
    with_blocks m (record m.blocks {
      contents = mixed (λ block. not
          (is_extended handles block)) other 0 m.blocks.contents;
    })

-- the state with the bytes `other block` in each block of extended memory
abbrev pub with_extended_blocks : (ℕ → List ℕ) → State → State
with_extended_blocks other s = record s { memory = extended_as s.xms.handles other s.memory }

-- if tables and memory are consistent, as in every machine, a run in which neither driver is called does not depend on
-- the bytes of any block of extended memory
abbrev pub ExtendedBlocksChangeNoRun : Type 0
ExtendedBlocksChangeNoRun =
    (other : ℕ → List ℕ) (s t : State) (n : ℕ) (stop : Stop) → AreConsistent s → StaysQuiet s n →
    IsRun s n stop t → IsRun (with_extended_blocks other s) n stop (with_extended_blocks other t)

-- t has the tables of expanded and extended memory of s, and the same bytes in each block of extended memory
pub record LeavesExtended (s t : State) : Type 0 where
  pub expanded : t.ems ≡ s.ems
  pub extended : t.xms ≡ s.xms
  pub bytes : (block : ℕ) → is_extended s.xms.handles block ≡ true → page_bytes t.memory block
      ≡ page_bytes s.memory block

-- if tables and memory are consistent, a run in which neither driver is called keeps the tables of expanded and of
-- extended memory and the bytes of each block of extended memory
abbrev pub RunLeavesExtended : Type 0
RunLeavesExtended = (s t : State) (n : ℕ) (stop : Stop) → AreConsistent s → StaysQuiet s n → IsRun s n stop t →
    LeavesExtended s t

-- from s, steps and runs one after another lead to this state; between them memory may be changed from outside, and
-- more room be reserved
pub data IsHistory (s : State) : State → Type 0 where
  none : IsHistory s s
  step_on : (t u : State) (stop : Option Stop) → IsHistory s t → Answers t stop u → IsHistory s u
  run_on : (t u : State) (n : ℕ) (stop : Stop) → IsHistory s t → IsRun t n stop u → IsHistory s u
  changed : (t : State) (memory : Memory) → IsHistory s t → IsHistory s (record t { memory = memory })
  reserved : (t : State) (bytes : ℕ) → IsHistory s t →
      IsHistory s (record t { console = record t.console { room = max t.console.room bytes } })

-- every result of a step from t leaves more than `bytes` bytes of output
abbrev pub WantsBeyond : ℕ → State → Type 0
WantsBeyond bytes t = (x : Answer) → MakesStep t x → bytes < length x.state.console.output

-- if `bytes` bytes of room are reserved, no allocation fails in runs that together write no more than that: where one
-- fails, the next step would leave more output
abbrev pub RoomIsEnoughForRuns : Type 0
RoomIsEnoughForRuns =
    (bytes : ℕ) (s t u : State) (n : ℕ) → bytes ≤ s.console.room → IsHistory s t → IsRun t n NoMemory u →
    WantsBeyond (length s.console.output + bytes) u

-- if `bytes` bytes of room are reserved, no allocation fails in steps that together write no more than that: where one
-- fails, the next step would leave more output
abbrev pub RoomIsEnoughForSteps : Type 0
RoomIsEnoughForSteps =
    (bytes : ℕ) (s t u : State) → bytes ≤ s.console.room → IsHistory s t → Answers t (Some NoMemory) u →
    WantsBeyond (length s.console.output + bytes) u
