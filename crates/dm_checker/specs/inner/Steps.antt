-- What is kept of the state before a step, and what one checked step does.
use Rattle.std.specs.Prelude.{◌≡◌, ◌⊎◌, ℕ, ◌+◌, Bool, List, [], ◌++◌, Option, Some, None}
use Rattle.dm_ins.specs.declared.ins.Ins.{Ins}
use Rattle.dm_services.specs.declared.state.stop.Stop.{Stop}
use Rattle.dm_services.specs.state.State.{State}
use Rattle.dm_machine.specs.Step.{fetched}
use Rattle.dm_ins.specs.Ins.{BeginsWith}
use Rattle.dm_machine.specs.Run.{Answers}
use Rattle.dm_findings.specs.declared.calls.Call.{Call}
use Rattle.dm_findings.specs.declared.finding.Act.{Act}
use Rattle.dm_findings.specs.declared.finding.Finding.{Finding}
use Rattle.dm_findings.specs.declared.finding.Found.{Found}
use Rattle.dm_findings.specs.Calls.{call_of}
use Rattle.dm_findings.specs.Sites.{site_of}
use Rattle.dm_findings.specs.Report.{Reported, report_of}
use Rattle.dm_origins.specs.Origins.{Known, origin_of}
use Rattle.dm_machine.specs.Step.{MakesStep}
use Rattle.dm_checker.specs.declared.acts.Before.{Before}
use Rattle.dm_checker.specs.declared.arena_copy.ArenaCopy.{ArenaCopy}
use Rattle.dm_checker.specs.Findings.{Finds, FindsTouched}
use Rattle.dm_checker.specs.Origins.{IsKnownAfter}
use Rattle.dm_checker.specs.Checks.{FindsAt, FindsAtStop, reported}
use Rattle.dm_checker.specs.Processes.{KnowsAtStop}
use Rattle.dm_checker.specs.ArenaCopy.{IsArenaCopy}
use Rattle.dm_checker.specs.inner.ArenaCopy.{shown_of}

-- b is what the checker keeps of the state s before a step: the registers, A20, the present process, the call, where in
-- its code the program performs it, and, if there is no call, the bytes at CS:IP
pub record IsBefore (s : State) (b : Before) : Type 0 where
  pub cpu : b.cpu ≡ s.cpu
  pub a20 : b.a20 ≡ s.memory.a20
  pub present : b.present ≡ s.processes.present
  pub call : b.call ≡ call_of s.cpu
  pub site : b.site ≡ site_of s.memory s.cpu
  pub bytes : b.call ≡ None → b.bytes ≡ fetched s.memory s.cpu

-- the step from s performs no call, and the bytes at CS:IP are no instruction
pub record IsUnlisted (s : State) : Type 0 where
  pub call : call_of s.cpu ≡ None
  pub none : (i : Ins) (length : ℕ) → BeginsWith (fetched s.memory s.cpu) i length → ⊥

-- a finding with its step: the step's number, the process, where in its code the program performed it, what it
-- performed, and who allocated or freed, by what is known after it
abbrev pub found_by : Before → ℕ → Known → Act → Finding → Found
found_by b step k a f = record {
  step = step;
  process = b.present;
  site = b.site;
  act = a;
  finding = f;
  origin = origin_of k b.a20 f;
}

-- the report `new` is the report `old` with the findings `more` added, or, without `free`, those that are not about
-- free memory
abbrev pub ReportsMore : Bool → Reported → Reported → List Found → Type 0
ReportsMore free old new more = (fs : List Found) → old ≡ report_of (reported free fs) →
    new ≡ report_of (reported free (fs ++ more))

-- the step from s performs the instruction i of `length` bytes, unless it performs a call (None)
pub data IsNextAct (s : State) : Option (Ins × ℕ) → Type 0 where
  an_instruction : (i : Ins) (length : ℕ) → call_of s.cpu ≡ None → BeginsWith (fetched s.memory s.cpu) i length →
      IsNextAct s (Some (i, length))
  no_instruction : ((i : Ins) (length : ℕ) → call_of s.cpu ≡ None → BeginsWith (fetched s.memory s.cpu) i length → ⊥) →
      IsNextAct s None

-- `new` is `old` with what is found appended of the bytes that the step from s touches, if it is made; w is what memory
-- shows of the arena before it
pub record Touches (s : State) (w : ArenaCopy) (old new : List Finding) : Type 0 where
  pub more : List Finding
  pub is : new ≡ old ++ more
  pub going : (t : State) → Answers s None t → FindsTouched s (shown_of w) more
  pub calling : (call : Call) → call_of s.cpu ≡ Some call → FindsTouched s (shown_of w) more

-- `new` is `old` with what is found of the step from s to t appended, but for the bytes that it touches; w is what
-- memory shows of the arena before it
pub record Looks (s t : State) (w : ArenaCopy) (old new : List Finding) : Type 0 where
  pub more : List Finding
  pub is : new ≡ old ++ more
  pub finds : (touched : List Finding) → FindsTouched s (shown_of w) touched → Finds s t (touched ++ more)

-- t is s, or what a step from s leaves
abbrev pub IsPart : State → State → Type 0
IsPart s t = (t ≡ s) ⊎ ((stop : Option Stop) × Answers s stop t)

-- `found` is what is found of a call of `step` from s to t, whether the machine goes on (None) or stops. k is what is
-- known before it of who allocated and who freed, and l what is known after it
abbrev pub FindsAtAny : State → Option Stop → State → Known → Known → List Found → Type 0
FindsAtAny s None t k l found = FindsAt s t l found
FindsAtAny s (Some stop) t k l found = FindsAtStop s stop t k found

-- l is known after a call of `step` from s to t, whether the machine goes on (None) or stops, if k was known before
abbrev pub KnowsAtAny : State → Option Stop → State → Known → Known → Type 0
KnowsAtAny s None t k l = IsKnownAfter s t k l
KnowsAtAny s (Some stop) t k l = KnowsAtStop s stop t k l

-- nothing is found of the step from s to t, and it allocates and frees nothing
pub record IsUnfound (s t : State) : Type 0 where
  pub finds : Finds s t []
  pub knows : (k : Known) → IsKnownAfter s t k k

-- so many such steps lead from s to this state
pub data GoesUnfound (s : State) : ℕ → State → Type 0 where
  here : GoesUnfound s 0 s
  further : (n : ℕ) (t u : State) → GoesUnfound s n t → MakesStep t (record { stop = None; state = u }) → IsUnfound t u →
      GoesUnfound s (n + 1) u

-- one checked step from s to t, with this stop or None: the report `new` is `old` with the findings of the step added,
-- those about free memory only with `free`; and if the machine goes on, w is what memory shows of the arena after the
-- step, and l what is known of who allocated and who freed, if k was before it
pub record ChecksOne (free : Bool) (s : State) (stop : Option Stop) (t : State) (w : ArenaCopy) (k l : Known)
    (old new : Reported) : Type 0 where
  pub answers : Answers s stop t
  pub found : List Found
  pub finds : FindsAtAny s stop t k l found
  pub reports : ReportsMore free old new found
  pub arena : stop ≡ None → IsArenaCopy t.upper t.memory w
  pub knows : KnowsAtAny s stop t k l
