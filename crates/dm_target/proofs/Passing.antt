-- Steps that are made at once hit no watchpoint, and none but the last leads to a breakpoint.
use Rattle.std.proofs.Common.{◌≡◌, ℕ, ◌+◌, ◌-◌, ◌<◌, ◌≤◌, true, false, List, [], Option, Some, None, inl, inr, refl, sym, ◌∙◌, subst, arith}
use Rattle.std.specs.Prelude.{All}
use Rattle.std.proofs.lemmas.Bool.{cases_eq}
use Rattle.dm_services.specs.declared.state.stop.Stop.TheVariants.{Steps as AllSteps}
use Rattle.dm_services.specs.state.State.{State}
use Rattle.dm_space.specs.Memory.{linear}
use Rattle.dm_cpu.specs.Guest.{guest}
use Rattle.dm_history.specs.Timelines.{Timeline}
use Rattle.dm_touches.specs.Touches.{reads, writes}
use Rattle.dm_requests.specs.declared.request.Point.{Point}
use Rattle.dm_machine.specs.declared.until.Breakpoint.{Breakpoint}
use Rattle.dm_machine.specs.Step.{MakesStep}
use Rattle.dm_machine.specs.Until.{is_one_of, stands_at}
use Rattle.dm_machine.specs.Run.{Goes, IsRun}
use Rattle.dm_machine.specs.Run as run
use Rattle.dm_machine.specs.Unmarked.{IsUnmarked, GoesUnmarked}
use Rattle.dm_machine.specs.Unmarked as unmarked
use Rattle.dm_machine.proofs.OneRun.{goes-one}
use Rattle.dm_machine.specs.Near.{GoesNear, GoesWithin}
use Rattle.dm_machine.specs.Near as near
use Rattle.dm_target.specs.declared.going.Pause.{Pause}
use Rattle.dm_target.specs.declared.going.Pause.TheVariants.{Arrived, Stopped}
use Rattle.dm_target.specs.declared.going.StepRange.{StepRange}
use Rattle.dm_target.specs.Going.{RunsPast, Continues, has_arrived, is_among, code_address}
use Rattle.dm_target.specs.Going as going
use Rattle.dm_target.specs.Watching.{Hits, performed, unwatched}
use Rattle.dm_target.specs.inner.Looking.{IsGuarded, Looks, Ends, RunsUnhit, pairs_of}
use Rattle.dm_target.specs.inner.Looking as looking
use Rattle.dm_target.proofs.Guarding.{none_touched}
use Rattle.dm_target.proofs.Nearing.{points_other}
use Rattle.dm_target.proofs.Stepping.{begins_of, no_entry_point, run_one}

-- ---- the steps are those of a run

within_goes : (ps : List Breakpoint) (s t : State) (n : ℕ) → GoesWithin ps s n t → Goes s n t
within_goes ps s t n near.here = run.here
within_goes ps s t m (near.further n v u g h cs ip off) = run.further n v t (within_goes ps s v n g) h

within_segment : (ps : List Breakpoint) (s t : State) (n : ℕ) → GoesWithin ps s n t → t.cpu.cs ≡ s.cpu.cs
within_segment ps s t n near.here = refl
within_segment ps s t m (near.further n v u g h cs ip off) = cs ∙ within_segment ps s v n g

unmarked_goes : (ms : List ℕ) (s t : State) (n : ℕ) → GoesUnmarked ms s n t → Goes s n t
unmarked_goes ms s t n unmarked.here = run.here
unmarked_goes ms s t m (unmarked.further n v u g x h) = run.further n v t (unmarked_goes ms s v n g) h

-- each state of steps that touch nothing marked is one before such a step
unmarked_at : (ms : List ℕ) (s t u : State) (n k : ℕ) → GoesUnmarked ms s n u → k < n → Goes s k t → IsUnmarked ms t
unmarked_at ms s t u n k unmarked.here less h = absurd (omega (arith, less))
unmarked_at ms s t u n k (unmarked.further m v w g x step) less h = elim (cases_eq k m) [
  | inl same ↦ (let there : Goes s m t = subst (λ (j : ℕ). Goes s j t) same h in
      subst (λ (y : State). IsUnmarked ms y) (goes-one s v t m (unmarked_goes ms s v m g) there) x)
  | inr other ↦ unmarked_at ms s t v m k g (omega (arith, less, other)) h
]

-- ---- none hits a watchpoint

-- no step of the n from s hits a watchpoint
abbrev pub Misses : List Point → State → ℕ → Type 0
Misses watches s n = (k : ℕ) (t u : State) → k < n → Goes s k t → MakesStep t (record { stop = None; state = u }) →
    Hits watches t u None

pub misses_none : (watches : List Point) (s : State) (n : ℕ) → watches ≡ [] → Misses watches s n
misses_none watches s n e k t u less g h = unwatched e refl

unmarked_misses : (ms : List ℕ) (watches : List Point) (t u : State) → All (IsGuarded ms) watches → IsUnmarked ms t →
    MakesStep t (record { stop = None; state = u }) → Hits watches t u None
unmarked_misses ms watches t u g x h =
    let b = begins_of t u x.below h in
    performed b.ins b.length (no_entry_point t.cpu x.below) b.begins
    (sym (none_touched ms watches t.memory.a20 (reads (guest t.cpu t.memory) b.ins b.length)
    (writes (guest t.cpu t.memory) b.ins b.length) g (x.quiet b.ins b.length b.begins)))

pub misses_marked : (ms : List ℕ) (watches : List Point) (s v : State) (n : ℕ) → All (IsGuarded ms) watches →
    GoesUnmarked ms s n v → Misses watches s n
misses_marked ms watches s v n g x k t u less goes h =
    unmarked_misses ms watches t u g (unmarked_at ms s t v n k x less goes) h

-- ---- none but the last leads to a breakpoint

not_arrived : (points : List ℕ) (s u : State) → s.cpu.cs < 65536 → u.cpu.cs ≡ s.cpu.cs → u.cpu.ip < 65536 →
    stands_at (pairs_of s.cpu.cs points) u.cpu ≡ false → has_arrived points None u ≡ false
not_arrived points s u small same below off =
    let here : is_one_of (pairs_of s.cpu.cs points) s.cpu.cs u.cpu.ip ≡ false =
    subst (λ (c : ℕ). is_one_of (pairs_of s.cpu.cs points) c u.cpu.ip ≡ false) same off in
    let apart = points_other points u.memory.a20 s.cpu.cs u.cpu.ip small below here in
    let there : is_among points (code_address u) ≡ false =
    subst (λ (c : ℕ). is_among points (linear u.memory.a20 c u.cpu.ip) ≡ false) (sym same) apart in
    rw there refl

within_passes : (points : List ℕ) (watches : List Point) (s t : State) (m n : ℕ) → s.cpu.cs < 65536 →
    Misses watches s n → m ≤ n → GoesWithin (pairs_of s.cpu.cs points) s m t → RunsPast points watches None s m t
within_passes points watches s t m n small miss le near.here = going.here
within_passes points watches s t m n small miss le (near.further k v u g h cs ip off) =
    let ps = pairs_of s.cpu.cs points in
    going.further k v t (within_passes points watches s v k n small miss (omega (arith, le)) g) (run_one v t h)
    (miss k v t (omega (arith, le)) (within_goes ps s v k g) h)
    (not_arrived points s t small (cs ∙ within_segment ps s v k g) ip off)

pub near_passes : (points : List ℕ) (watches : List Point) (s t : State) (n : ℕ) → s.cpu.cs < 65536 →
    Misses watches s n → GoesNear (pairs_of s.cpu.cs points) s n t → RunsUnhit points watches None s n t
near_passes points watches s t n small miss near.start = looking.none
near_passes points watches s t n small miss (near.ended k v u g h) =
    looking.last k v t (within_passes points watches s v k (k + 1) small miss (omega arith) g) (run_one v t h)
    (miss k v t (omega arith) (within_goes (pairs_of s.cpu.cs points) s v k g) h)

-- ---- going on

passes_append : (points : List ℕ) (watches : List Point) (span : Option StepRange) (s t u : State) (m n : ℕ) →
    RunsPast points watches span s m t → RunsPast points watches span t n u → RunsPast points watches span s (m + n) u
passes_append points watches span s t u m n p going.here = (let F : ℕ → Type 0 =
    λ j. RunsPast points watches span s j t in let none : m ≡ m + 0 = omega arith in subst F none p)
passes_append points watches span s t u m n p (going.further k v w q step hits off) =
    subst (λ (j : ℕ). RunsPast points watches span s j u) (omega arith) (going.further (m + k) v u
    (passes_append points watches span s t v m k p q) step hits off)

-- no steps were made
pub near_none : (points : List ℕ) (watches : List Point) (span : Option StepRange) (s t : State) (n : ℕ) →
    RunsUnhit points watches span s n t → n ≡ 0 → t ≡ s
near_none points watches span s t n looking.none e = refl
near_none points watches span s t n (looking.last k v u p step hits) e = absurd (omega arith)

-- the last step has led to no breakpoint: none has
near_all : (points : List ℕ) (watches : List Point) (span : Option StepRange) (s t : State) (n : ℕ) →
    RunsUnhit points watches span s n t → has_arrived points span t ≡ false → RunsPast points watches span s n t
near_all points watches span s t n looking.none off = going.here
near_all points watches span s t n (looking.last k v u p step hits) off = going.further k v t p step hits off

-- steps that were made at once, behind others
pub more_passes : (points : List ℕ) (watches : List Point) (span : Option StepRange) (s t u : State)
    (most left made : ℕ) → left ≤ most → made ≤ left → RunsPast points watches span s (most - left) t
    → RunsUnhit points watches span t made u → has_arrived points span u ≡ false →
    RunsPast points watches span s (most - (left - made)) u
more_passes points watches span s t u most left made few less p q off =
    subst (λ (j : ℕ). RunsPast points watches span s j u) (omega (arith, few, less))
    (passes_append points watches span s t u (most - left) made p (near_all points watches span t u made q off))

-- one more step, behind others
pub one_passes : (points : List ℕ) (watches : List Point) (span : Option StepRange) (s t u : State) (most left : ℕ) →
    left ≤ most → 1 ≤ left → RunsPast points watches span s (most - left) t
    → IsRun t 1 AllSteps u → Hits watches t u None → has_arrived points span u ≡ false →
    RunsPast points watches span s (most - (left - 1)) u
one_passes points watches span s t u most left few some p step hits off =
    subst (λ (j : ℕ). RunsPast points watches span s j u) (omega (arith, few, some))
    (going.further (most - left) t u p step hits off)

-- the last of steps that were made at once has led to a breakpoint
pub near_arrives : (points : List ℕ) (watches : List Point) (span : Option StepRange) (s t u : State)
    (most left made : ℕ) → left ≤ most → made ≤ left → 1 ≤ made → RunsPast points watches span s (most - left) t
    → RunsUnhit points watches span t made u → has_arrived points span u ≡ true →
    Continues points watches span s most Arrived u
near_arrives points watches span s t u most left made few less some p looking.none there = absurd (omega (arith, some))
near_arrives points watches span s t u most left made few less some p (looking.last k v w q step hits) there =
    going.arrived (most - left + k) v (omega (arith, few, less)) refl (passes_append points watches span s t v
    (most - left) k p q) step hits there

-- a step that was looked at ends the steps
pub looks_ends : (points : List ℕ) (watches : List Point) (span : Option StepRange) (s t u : State) (most left : ℕ)
    (pause : Pause) → left ≤ most → 1 ≤ left → RunsPast points watches span s (most - left) t
    → Looks watches t (Some pause) u → Continues points watches span s most pause u
looks_ends points watches span s t u most left pause few some p (looking.hits point v step hits) =
    going.hit (most - left) t point (omega (arith, few, some)) refl p step hits
looks_ends points watches span s t u most left pause few some p (looking.stops why v other step) =
    going.cut (most - left) t why (omega (arith, few, some)) refl other p step
looks_ends points watches span s t u most left pause few some p (looking.wants what watched at) =
    going.short (most - left) what (omega (arith, few, some)) refl watched at p

pub ends_with : (points : List ℕ) (watches : List Point) (span : Option StepRange) (s t u : State) (most left : ℕ)
    (o : Option Pause) (pause : Pause) → o ≡ Some pause → left ≤ most → 1 ≤ left →
    RunsPast points watches span s (most - left) t
    → Ends points watches span t o u → Continues points watches span s most pause u
ends_with points watches span s t u most left o pause e few some p (looking.goes_on v step hits off) =
    (let no : None ≡ Some pause = e in cc)
ends_with points watches span s t u most left o pause e few some p (looking.arrives v step hits there) =
    (let is : Some Arrived ≡ Some pause = e in let same : Arrived ≡ pause = cc in
    subst (λ (x : Pause). Continues points watches span s most x u) same (going.arrived (most - left) t (omega (
      arith,
      few,
      some,
    )) refl p step hits there))
ends_with points watches span s t u most left o pause e few some p (looking.ends why v h) =
    (let is : Some why ≡ Some pause = e in let same : why ≡ pause = cc in
    subst (λ (x : Pause). Continues points watches span s most x u) same
    (looks_ends points watches span s t u most left why few some p h))

pub goes_with : (points : List ℕ) (watches : List Point) (span : Option StepRange) (s t u : State) (most left : ℕ)
    (o : Option Pause) → o ≡ None → left ≤ most → 1 ≤ left → RunsPast points watches span s (most - left) t
    → Ends points watches span t o u → RunsPast points watches span s (most - (left - 1)) u
goes_with points watches span s t u most left o e few some p (looking.goes_on v step hits off) =
    one_passes points watches span s t u most left few some p step hits off
goes_with points watches span s t u most left o e few some p (looking.arrives v step hits there) =
    (let is : Some Arrived ≡ None = e in cc)
goes_with points watches span s t u most left o e few some p (looking.ends why v h) =
    (let is : Some why ≡ None = e in cc)

-- all steps were made
pub all_made : (points : List ℕ) (watches : List Point) (span : Option StepRange) (s t : State) (most left : ℕ) →
    left ≡ 0 → RunsPast points watches span s (most - left) t → Continues points watches span s most (Stopped AllSteps) t
all_made points watches span s t most left e p =
    going.whole refl (subst (λ (j : ℕ). RunsPast points watches span s j t) (omega (arith, e)) p)

-- the same steps, in other words
pub passes_at : (points : List ℕ) (watches : List Point) (span : Option StepRange) (s : State) (u v : Timeline)
    (most a b : ℕ) → v ≡ u → b ≡ a → RunsPast points watches span s (most - a) u.machine →
    RunsPast points watches span s (most - b) v.machine
passes_at points watches span s u v most a b e f p =
    subst (λ (x : Timeline). RunsPast points watches span s (most - b) x.machine) (sym e)
    (subst (λ (j : ℕ). RunsPast points watches span s (most - j) u.machine) (sym f) p)
