-- What is found of one step that was made, from the state before it to the state after it.
-- Source: MS-DOS Programmer's Reference, "Arena header"; the order within a step is this machine's own.
use Rattle.std.specs.Prelude.{◌≡◌, ℕ, Bool, if◌then◌else◌, List, [], ◌∷◌, ◌++◌, map, Option, Some, None}
use Rattle.std.specs.List.{flat_map}
use Rattle.dm_space.specs.Memory.{Memory}
use Rattle.dm_ins.specs.declared.ins.Ins.{Ins}
use Rattle.dm_cpu.specs.Guest.{guest, up}
use Rattle.dm_blocks.specs.declared.header.Header.{Header}
use Rattle.dm_services.specs.state.State.{State}
use Rattle.dm_machine.specs.Step.{fetched}
use Rattle.dm_ins.specs.Ins.{BeginsWith}
use Rattle.dm_findings.specs.declared.calls.Call.{Call}
use Rattle.dm_findings.specs.declared.finding.Act.{Act}
use Rattle.dm_findings.specs.declared.finding.Act.TheVariants as act
use Rattle.dm_findings.specs.declared.finding.Finding.{Finding}
use Rattle.dm_findings.specs.declared.finding.Finding.TheVariants.{Destroyed, Whole}
use Rattle.dm_findings.specs.declared.finding.Found.{Found}
use Rattle.dm_findings.specs.Calls.{call_of}
use Rattle.dm_findings.specs.Sites.{site_of}
use Rattle.dm_origins.specs.Origins.{Known, origin_of}
use Rattle.dm_checker.specs.Shown.{Shown, IsShown}
use Rattle.dm_checker.specs.Headers.{overwritten, mapped_away}
use Rattle.dm_touches.specs.Found.{touch_findings}
use Rattle.dm_origins.specs.outcomes.Calls.{arranges, call_findings}
use Rattle.dm_checker.specs.Freed.{freed_twice}
use Rattle.dm_checker.specs.Arranged.{arranged}

-- the finding that the arena was whole and is destroyed, or was destroyed and is whole, by where its list breaks before
-- and after a step (None: nowhere); none if it was and is whole, or was and is destroyed
abbrev pub turn_found : Option ℕ → Option ℕ → List Finding
turn_found None (Some at) = Destroyed at ∷ []
turn_found (Some at) None = Whole ∷ []
turn_found _ _ = []

-- the findings of headers that were overwritten, in the order of the list; none if the step's call is one that may
-- write headers
abbrev pub all_overwritten : Bool → Memory → Memory → List Header → List Finding
all_overwritten may S T headers = if may then [] else flat_map (overwritten S T) headers

-- what is found of the bytes that the step from s touches, by the arena that memory shows before it (`old`): something
-- only if an instruction is performed, not where a call is (`calling`), nor once the program has ended (`over`)
pub data FindsTouched (s : State) (old : Shown) (found : List Finding) : Type 0 where
  touching : (i : Ins) (length : ℕ) → s.exited ≡ None → call_of s.cpu ≡ None →
      BeginsWith (fetched s.memory s.cpu) i length → found ≡ touch_findings (guest s.cpu s.memory) i length old.broken
      old.headers → FindsTouched s old found
  calling : (call : Call) → call_of s.cpu ≡ Some call → found ≡ [] → FindsTouched s old found
  over : (code : ℕ) → s.exited ≡ Some code → found ≡ [] → FindsTouched s old found

-- what is found of the step from s to t by what it changes, in this order: headers overwritten and headers mapped away,
-- both in the order of the list; the arena destroyed, or whole again; a block freed twice; a call that failed. `old`
-- and `new` are what memory shows of the arena before and after the step
abbrev pub findings : State → State → Shown → Shown → List Finding
findings s t old new =
    all_overwritten (arranges s.cpu (call_of s.cpu)) s.memory t.memory old.headers
    ++ flat_map (mapped_away s.memory t.memory) old.headers
    ++ turn_found old.broken new.broken
    ++ freed_twice s.cpu t.cpu (call_of s.cpu) old.headers
    ++ call_findings s.cpu t.cpu (call_of s.cpu)

-- `found` is what is found of the step from s to t: of the bytes that it touches, of what it changes, and of blocks
-- that its call freed or did not resize
pub record Finds (s t : State) (found : List Finding) : Type 0 where
  pub old : Shown
  pub new : Shown
  pub touched : List Finding
  pub before : IsShown s.upper s.memory old
  pub after : IsShown t.upper t.memory new
  pub touches : FindsTouched s old touched
  pub is : found ≡ touched ++ findings s t old new ++ arranged s t old new

-- ---- what acts in a step: the call of a service or a driver, else the instruction at CS:IP

-- a is what the step from s performs: a call, or an instruction with the offset after it
pub data IsAct (s : State) (a : Act) : Type 0 where
  called : (call : Call) → call_of s.cpu ≡ Some call → a ≡ act.Call call → IsAct s a
  instructed : (i : Ins) (length : ℕ) → call_of s.cpu ≡ None → BeginsWith (fetched s.memory s.cpu) i length →
      a ≡ act.Instruction i (up s.cpu.ip length) → IsAct s a

-- the findings with their step from s to t, which performs a: its number (the machine's count of steps after it), the
-- process that was present, and where in its code the program performs it: an instruction at CS:IP, a call at its
-- caller. k is what is known after it of who allocated and who freed
abbrev pub found_at : State → State → Known → Act → List Finding → List Found
found_at s t k a = map (λ f. record {
  step = t.steps;
  process = s.processes.present;
  site = site_of s.memory s.cpu;
  act = a;
  finding = f;
  origin = origin_of k s.memory.a20 f;
})

-- `found` is the findings fs with their step from s to t, after which k is known; the empty list if there are none
pub data IsFound (s t : State) (k : Known) (fs : List Finding) (found : List Found) : Type 0 where
  none : fs ≡ [] → found ≡ [] → IsFound s t k fs found
  some : (a : Act) → IsAct s a → found ≡ found_at s t k a fs → IsFound s t k fs found
