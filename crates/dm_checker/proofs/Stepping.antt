-- One checked step.
use Rattle.std.proofs.Common.{◌≡◌, ℕ, ◌+◌, Bool, true, false, List, [], ◌++◌, map, Option, Some, None, refl, sym, ◌∙◌, ap, ap₂, subst}
use Rattle.std.specs.Prelude.{◌&&◌, is_some, slice_index_or, IfSome}
use Rattle.dm_space.specs.Memory.{Memory, IsPage}
use Rattle.dm_services.specs.declared.state.stop.Stop.{Stop}
use Rattle.dm_services.specs.declared.state.stop.Stop.TheVariants.{Exited, Steps as AllSteps, Halted, Unlisted, InputEnded, Destroyed, Memory as NoMemory}
use Rattle.dm_ems.specs.Consistent.{IsOwned}
use Rattle.dm_services.specs.state.State.{State, AreConsistent}
use Rattle.dm_machine.specs.Step.{MakesStep}
use Rattle.dm_machine.specs.Run.{Answers}
use Rattle.dm_machine.specs.Unmarked.{IsUnmarked, GoesUnmarked}
use Rattle.dm_machine.specs.Unmarked as unmarked
use Rattle.dm_touches.specs.quiet.Marks.{lies_below, satisfies, satisfy}
use Rattle.dm_findings.specs.declared.calls.Call.{Call}
use Rattle.dm_findings.specs.declared.finding.Act.TheVariants as act
use Rattle.dm_findings.specs.declared.finding.Finding.{Finding}
use Rattle.dm_findings.specs.declared.finding.Found.{Found}
use Rattle.dm_findings.specs.Calls.{call_of}
use Rattle.dm_findings.specs.Report.{Reported}
use Rattle.dm_origins.specs.Origins.{Known}
use Rattle.dm_checker.specs.declared.acts.Before.{Before}
use Rattle.dm_checker.specs.declared.arena_copy.ArenaCopy.{ArenaCopy}
use Rattle.dm_origins.specs.outcomes.Calls.{call_stays_resident, call_findings}
use Rattle.dm_checker.specs.Freed.{freed_twice}
use Rattle.dm_origins.specs.leaks.Leaks.{leaks}
use Rattle.dm_touches.specs.declared.elements.Elements.{Elements}
use Rattle.dm_cpu.specs.Guest.{guest}
use Rattle.dm_exec.specs.Effect.{effect}
use Rattle.dm_touches.specs.Elements.{bytes_of}
use Rattle.dm_touches.specs.Touches.{reads, writes}
use Rattle.dm_touches.specs.Found.{of_headers, of_places, touch_findings}
use Rattle.dm_touches.proofs.Written.{writes_listed}
use Rattle.dm_checker.specs.declared.arena_copy.Broken.{Broken}
use Rattle.dm_checker.specs.Shown.{Shown}
use Rattle.dm_checker.specs.Arranged.{arranged_by, arranged}
use Rattle.dm_checker.specs.Findings.{findings, Finds, FindsTouched, touching, over, IsFound, none}
use Rattle.dm_checker.specs.Checks.{FindsAtEnd, FindsAtStop, left_behind, left_by}
use Rattle.dm_checker.specs.Origins.{known_by, IsKnownAfter}
use Rattle.dm_checker.specs.Processes.{KnowsAtStop}
use Rattle.dm_checker.specs.ArenaCopy.{header_of, broken_at, IsArenaCopy}
use Rattle.dm_checker.specs.inner.ArenaCopy.{shown_of, IsSeen}
use Rattle.dm_checker.specs.Unfound.{is_read_unfound, is_write_unfound}
use Rattle.dm_checker.specs.inner.Unfound.{FindsNothingAt}
use Rattle.dm_checker.specs.inner.Steps.{IsBefore, found_by, ReportsMore, Touches, Looks, ChecksOne, IsUnfound, GoesUnfound}
use Rattle.dm_checker.specs.inner.Steps as steps
use Rattle.dm_checker.proofs.Acting.{some_none, call_acts, had_ended, exit_changes_nothing}
use Rattle.dm_checker.proofs.Seen.{seen_arena}
use Rattle.dm_checker.proofs.Still.{seen_findings}
use Rattle.dm_checker.proofs.Reading.{no_call, still_running, next_leaves, Begins, begins_of}
use Rattle.dm_checker.proofs.Unfound.{and_left, and_right, and_both, element_more, are_all, elements_all, headers_unfound, places_unfound, memory_of, apart_of}
use Rattle.dm_checker.proofs.Untouched.{seen_unfound}
use Rattle.dm_checker.proofs.Telling.{reports_none, tells}

found_as : (s t : State) (k : Known) (fs gs : List Finding) (more : List Found) → fs ≡ gs → IsFound s t k fs more →
    IsFound s t k gs more
found_as s t k fs gs more e x = (let F : List Finding → Type 0 = λ l. IsFound s t k l more in subst F e x)

-- ---- who allocated and who freed

-- what is known after a step, by what was kept of the arena before and after it
pub known_after : (s t : State) (b : Before) (v w : ArenaCopy) (k l : Known) → IsBefore s b →
    IsArenaCopy s.upper s.memory v →
    IsArenaCopy t.upper t.memory w → l ≡ known_by s t (shown_of v) (shown_of w) b.call k → IsKnownAfter s t k l
known_after s t b v w k l h x y e = record {
  old = shown_of v;
  new = shown_of w;
  before = x.shown;
  after = y.shown;
  is = e ∙ ap (λ (c : Option Call). known_by s t (shown_of v) (shown_of w) c k) h.call;
}

-- without a call nothing is allocated or freed
known_still : (s t : State) (v w : ArenaCopy) (k : Known) → call_of s.cpu ≡ None → IsArenaCopy s.upper s.memory v →
    IsArenaCopy t.upper t.memory w → IsKnownAfter s t k k
known_still s t v w k uncalled x y = record {
  old = shown_of v;
  new = shown_of w;
  before = x.shown;
  after = y.shown;
  is = ap (λ (c : Option Call). known_by s t (shown_of v) (shown_of w) c k) (sym uncalled);
}

-- ---- what is touched

touched_as : (s : State) (old : Shown) (fs gs : List Finding) → fs ≡ gs → FindsTouched s old gs → FindsTouched s old fs
touched_as s old fs gs e x = (let F : List Finding → Type 0 = λ l. FindsTouched s old l in subst F (sym e) x)

-- what was put behind nothing, of a step that is made
pub touched_going : (s t : State) (w : ArenaCopy) (empty first : List Finding) → empty ≡ [] → Touches s w empty first →
    Answers s None t → FindsTouched s (shown_of w) first
touched_going s t w empty first e x a = touched_as s (shown_of w) first x.more (x.is
    ∙ ap (λ (l : List Finding). l ++ x.more) e) (x.going t a)

-- what was put behind nothing, of a call
pub touched_calling : (s : State) (w : ArenaCopy) (b : Before) (call : Call) (empty first : List Finding) → empty ≡ [] →
    Touches s w empty first → IsBefore s b → b.call ≡ Some call → FindsTouched s (shown_of w) first
touched_calling s w b call empty first e x h is = touched_as s (shown_of w) first x.more (x.is
    ∙ ap (λ (l : List Finding). l ++ x.more) e) (x.calling call (sym h.call ∙ is))

-- ---- the step that ends the program

abbrev pub Ends : Bool → State → State → Known → Reported → Reported → Type 0
Ends free s t k old new = (more : List Found) × FindsAtEnd s t k more × ReportsMore free old new more

pub ends : (free : Bool) (s t : State) (b : Before) (call : Call) (step : ℕ) (w : ArenaCopy) (k l : Known)
    (first fs all : List Finding) (old new : Reported) → b.call ≡ Some call → IsBefore s b → IsKnownAfter s t k l →
    FindsTouched s (shown_of w) first → Looks s t w first fs → all ≡ fs ++ leaks (call_stays_resident call) t →
    step ≡ t.steps → ReportsMore free old new (map (found_by b step l (act.Call call)) all) → Ends free s t k old new
ends free s t b call step w k l first fs all old new e h knows touched x is steps r =
    let told = tells free s t b step l (act.Call call) all old new h (call_acts b call e s h) steps r in
    let same : all ≡ (first ++ x.more) ++ left_behind s t
    = is ∙ ap₂ (λ (xs : List Finding) (c : Option Call). xs ++ left_by c t) x.is (sym e ∙ h.call) in (
      told.more,
      record {
        findings = first ++ x.more;
        finds = x.finds first touched;
        known = l;
        knows = knows;
        told = found_as s t l all _ told.more same told.found;
      },
      told.reports,
    )

-- ---- any step

-- the machine goes on
pub goes_on : (free : Bool) (s t : State) (v w : ArenaCopy) (k l : Known) (first fs gs : List Finding)
    (old new : Reported) → Answers s None t → FindsTouched s (shown_of v) first → Looks s t v first fs → gs ≡ fs →
    (more : List Found) × IsFound s t l gs more × ReportsMore free old new more → IsArenaCopy t.upper t.memory w →
    IsKnownAfter s t k l → ChecksOne free s None t w k l old new
goes_on free s t v w k l first fs gs old new a touched x same told arena knows = record {
  answers = a;
  found = told.0;
  finds = record {
    findings = first ++ x.more;
    finds = x.finds first touched;
    told = found_as s t l gs (first
        ++ x.more) told.0 (same ∙ x.is) told.1;
  };
  reports = told.2;
  arena = λ e. arena;
  knows = knows;
}

-- the program ends
pub exits : (free : Bool) (s t : State) (code : ℕ) (w : ArenaCopy) (k l : Known) (old new : Reported) →
    Answers s (Some (Exited code)) t → Ends free s t k old new → IsKnownAfter s t k l →
    ChecksOne free s (Some (Exited code)) t w k l old new
exits free s t code w k l old new a x knows = record {
  answers = a;
  found = x.0;
  finds = x.1;
  reports = x.2;
  arena = λ e. absurd (some_none (Exited code) e);
  knows = knows;
}

-- what was kept is seen in its own memory
seen_there : (s : State) (w : ArenaCopy) → IsArenaCopy s.upper s.memory w →
    ((k : ℕ) → IfSome (slice_index_or s.memory.windows k None) (IsPage s.memory)) → IsSeen s.upper s.memory w
seen_there s w x pages = record {
  setting = sym x.setting;
  windows = sym x.windows;
  pages = pages;
  headers = x.headers;
  there = x.there;
}

-- what is found of a step without a call, of which nothing is touched and after which memory shows the same
nothing_by : (s t : State) (w : ArenaCopy) → call_of s.cpu ≡ None → IsArenaCopy s.upper s.memory w →
    IsSeen t.upper t.memory w → FindsTouched s (shown_of w) [] → Finds s t []
nothing_by s t w uncalled x seen touched =
    let calm : freed_twice s.cpu t.cpu (call_of s.cpu) (shown_of w).headers ++ call_findings s.cpu t.cpu (call_of s.cpu)
    ≡ []
    = ap (λ (k : Option Call). freed_twice s.cpu t.cpu k (shown_of w).headers
    ++ call_findings s.cpu t.cpu k) uncalled in
    let none : findings s t (shown_of w) (shown_of w) ≡ [] = seen_findings s t w x seen ∙ calm in
    let still : arranged s t (shown_of w) (shown_of w) ≡ []
    = ap (λ (k : Option Call). arranged_by s.memory.a20 s.processes.present s.cpu t.cpu k (shown_of w).headers
    (shown_of w)) uncalled in
    record {
      old = shown_of w;
      new = shown_of w;
      touched = [];
      before = x.shown;
      after = (seen_arena s.upper t.upper s.memory t.memory w x seen).shown;
      touches = touched;
      is = sym (ap₂ (λ (l m : List Finding). [] ++ l ++ m) none still);
    }

-- nothing is found once the program has ended
nothing_found : (s : State) (w : ArenaCopy) (known : Known) (code : ℕ) → call_of s.cpu ≡ None → s.exited ≡ Some code →
    IsArenaCopy s.upper s.memory w → ((k : ℕ) → IfSome (slice_index_or s.memory.windows k None) (IsPage s.memory)) →
    FindsAtEnd s s known []
nothing_found s w known code uncalled ended x pages =
    let left : [] ++ left_behind s s ≡ [] = ap (λ (k : Option Call). left_by k s) uncalled in
    record {
      findings = [];
      finds = nothing_by s s w uncalled x (seen_there s w x pages) (over code ended refl);
      known = known;
      knows = known_still s s w w known uncalled x x;
      told = none left refl;
    }

some_of : (o : Option ℕ) (P Q : ℕ → Type 0) → ((block : ℕ) → P block → Q block) → IfSome o P → IfSome o Q
some_of None P Q f h = h
some_of (Some block) P Q f h = f block h

-- each page that a window shows is there
pages_there : (s : State) → AreConsistent s → (k : ℕ) → IfSome (slice_index_or s.memory.windows k None)
    (IsPage s.memory)
pages_there s x k =
    let F : ℕ → Type 0 = λ block. IsPage s.memory block in
    some_of (slice_index_or s.memory.windows k None) (IsOwned s.ems.pages) F (λ block o. subst F o.2
    (x.ems.owned o.0 o.1)) (x.ems.shown k)

-- the program had ended before
over_then : (free : Bool) (s t : State) (code : ℕ) (w : ArenaCopy) (k : Known) (r : Reported) →
    Answers s (Some (Exited code)) t → call_of s.cpu ≡ None → IsArenaCopy s.upper s.memory w → AreConsistent s →
    ChecksOne free s (Some (Exited code)) t w k k r r
over_then free s t code w k r a uncalled x linked =
    let F : State → Type 0 = λ u. FindsAtEnd s u k [] in
    let G : State → Type 0 = λ u. IsKnownAfter s u k k in
    let ended = had_ended s t code uncalled a in
    let same = sym (exit_changes_nothing s t code uncalled a) in
    exits free s t code w k k r r a (
      [],
      subst F same (nothing_found s w k ended.0 uncalled ended.1 x
          (pages_there s linked)),
      reports_none free r,
    ) (subst G same (known_still s s w w k uncalled x x))

pub was_over : (free : Bool) (s t : State) (b : Before) (code : ℕ) (w : ArenaCopy) (k : Known) (r : Reported) →
    Answers s (Some (Exited code)) t → IsBefore s b → b.call ≡ None → IsArenaCopy s.upper s.memory w → AreConsistent t →
    ChecksOne free s (Some (Exited code)) t w k k r r
was_over free s t b code w k r a h e x linked =
    let uncalled = sym h.call ∙ e in
    let L : State → Type 0 = λ u. AreConsistent u in
    over_then free s t code w k r a uncalled x (subst L (exit_changes_nothing s t code uncalled a) linked)

none_at : (s t : State) (stop : Stop) (k : Known) → ((code : ℕ) → stop ≡ Exited code → ⊥) → FindsAtStop s stop t k []
none_at s t (Exited code) k other = absurd (other code refl)
none_at s t AllSteps k other = refl
none_at s t Halted k other = refl
none_at s t Unlisted k other = refl
none_at s t InputEnded k other = refl
none_at s t Destroyed k other = refl
none_at s t NoMemory k other = refl

still_known : (s t : State) (stop : Stop) (k : Known) → ((code : ℕ) → stop ≡ Exited code → ⊥) → KnowsAtStop s stop t k k
still_known s t (Exited code) k other = absurd (other code refl)
still_known s t AllSteps k other = refl
still_known s t Halted k other = refl
still_known s t Unlisted k other = refl
still_known s t InputEnded k other = refl
still_known s t Destroyed k other = refl
still_known s t NoMemory k other = refl

-- no step was made
pub stops : (free : Bool) (s t : State) (stop : Stop) (w : ArenaCopy) (k : Known) (r : Reported) →
    Answers s (Some stop) t → ((code : ℕ) → stop ≡ Exited code → ⊥) → ChecksOne free s (Some stop) t w k k r r
stops free s t stop w k r a other = record {
  answers = a;
  found = [];
  finds = none_at s t stop k other;
  reports = reports_none free r;
  arena = λ e. absurd (some_none stop e);
  knows = still_known s t stop k other;
}

-- ---- a step of an instruction that touches nothing that matters

-- nothing is found of what it touches
unfound_touched : (s t : State) (w : ArenaCopy) → (p : FindsNothingAt s w) → Answers s None t →
    FindsTouched s (shown_of w) []
unfolding touch_findings
unfound_touched s t w p a =
    let rs = bytes_of (reads (guest s.cpu s.memory) p.ins p.length) in
    let ws = bytes_of (writes (guest s.cpu s.memory) p.ins p.length) in
    let a20 = s.memory.a20 in
    let unfound_reads : are_all (is_read_unfound w.headers.items) a20 rs ≡ true =
    elements_all (is_read_unfound w.headers.items) a20 (reads (guest s.cpu s.memory) p.ins p.length) p.nothing.reads in
    let unfound_writes : are_all (is_write_unfound s.memory w.headers.items) a20 ws ≡ true =
    elements_all (is_write_unfound s.memory w.headers.items) a20 (writes (guest s.cpu s.memory) p.ins p.length)
    p.nothing.writes in
    let headers : of_headers a20 rs ws (broken_at w.broken) (map header_of w.headers.items) ≡ []
    = ap (λ (o : Option Broken). of_headers a20 rs ws (broken_at o) (map header_of w.headers.items)) p.nothing.whole
    ∙ headers_unfound a20 rs ws w.headers.items unfound_reads
    (apart_of s.memory w.headers.items a20 ws unfound_writes) in
    let places : of_places s.memory ws ≡ [] = places_unfound s.memory w.headers.items ws
    (memory_of s.memory w.headers.items a20 ws unfound_writes) in
    touching p.ins p.length (still_running s t a) (no_call s.cpu p.below) p.begins (sym (ap₂ (λ (l m : List Finding). l
    ++ m) headers places))

-- the pages that windows show are there
abbrev pub HasPages : State → Type 0
HasPages s = (k : ℕ) → IfSome (slice_index_or s.memory.windows k None) (IsPage s.memory)

-- memory still shows what was kept
unfound_seen : (s t : State) (w : ArenaCopy) → FindsNothingAt s w → HasPages s → Answers s None t →
    IsArenaCopy s.upper s.memory w → IsSeen t.upper t.memory w
unfound_seen s t w p pages a x =
    let g = guest s.cpu s.memory in
    let n : Memory = (effect g p.ins p.length).memory in
    let left = next_leaves s t p.ins p.length p.below p.begins a in
    let seen : IsSeen s.upper n w = seen_unfound s.upper s.memory n w _ _ x pages (writes_listed g p.ins p.length)
    p.nothing in
    let G : Bool → Type 0 = λ b. IsSeen b t.memory w in
    let H : Memory → Type 0 = λ m. IsSeen s.upper m w in
    subst G (sym left.upper) (subst H (sym left.memory) seen)

-- ---- steps of instructions that touch nothing that is marked

pass_more : (p q : ℕ → Bool) → ((a : ℕ) → p a ≡ true → q a ≡ true) → (a20 : Bool) (e : Elements) → satisfy p a20 e ≡ true →
    satisfy q a20 e ≡ true
pass_more p q h a20 e t =
    let a = satisfies p a20 e.first in
    let b = satisfies p a20 e.second in
    let c = satisfies p a20 e.third in
    let both = and_left (a && b) c t in
    and_both (satisfies q a20 e.first && satisfies q a20 e.second) (satisfies q a20 e.third)
    (and_both (satisfies q a20 e.first) (satisfies q a20 e.second) (element_more p q h a20 e.first (and_left a b both))
    (element_more p q h a20 e.second (and_right a b both)))
    (element_more p q h a20 e.third (and_right (a && b) c t))

-- nothing is found of a step that touches nothing that is marked
unmarked_finds_nothing : (s : State) (w : ArenaCopy) → w.broken ≡ None → IsArenaCopy s.upper s.memory w →
    IsUnmarked w.marks s → Begins s → FindsNothingAt s w
unmarked_finds_nothing s w whole x u b =
    let g = guest s.cpu s.memory in
    let quiet = u.quiet b.ins b.length b.begins in
    record {
      ins = b.ins;
      length = b.length;
      below = u.below;
      begins = b.begins;
      nothing = record {
        whole = whole;
        reads = pass_more (lies_below w.marks 2) (is_read_unfound w.headers.items) (λ a t. x.marked.reads a t)
            s.memory.a20 (reads g b.ins b.length) quiet.reads;
        writes = pass_more (lies_below w.marks 1) (is_write_unfound s.memory w.headers.items)
            (λ a t. x.marked.writes s.memory (sym x.windows) a t) s.memory.a20 (writes g b.ins b.length) quiet.writes;
      };
    }

-- so many such steps lead from s to t
pub record StaysUnfound (s t : State) (w : ArenaCopy) (n : ℕ) : Type 0 where
  pub unfound : GoesUnfound s n t
  pub arena : IsArenaCopy t.upper t.memory w
  pub pages : HasPages t

unfound_more : (s t u : State) (w : ArenaCopy) (n : ℕ) → w.broken ≡ None → StaysUnfound s t w n → IsUnmarked w.marks t →
    MakesStep t (record { stop = None; state = u }) → StaysUnfound s u w (n + 1)
unfound_more s t u w n whole p x step =
    let passed = unmarked_finds_nothing t w whole p.arena x (begins_of t u x.below step) in
    let seen = unfound_seen t u w passed p.pages step p.arena in
    let uncalled = no_call t.cpu passed.below in
    let arena = seen_arena t.upper u.upper t.memory u.memory w p.arena seen in
    let passing : IsUnfound t u = record {
      finds = nothing_by t u w uncalled p.arena seen (unfound_touched t u w passed
          step);
      knows = λ k. known_still t u w w k uncalled p.arena arena;
    } in
    record { unfound = steps.further n t u p.unfound step passing; arena = arena; pages = seen.pages }

unfound_all : (s : State) (w : ArenaCopy) (t : State) (n : ℕ) → w.broken ≡ None → IsArenaCopy s.upper s.memory w →
    HasPages s → GoesUnmarked w.marks s n t → StaysUnfound s t w n
unfound_all s w _ _ whole x pages unmarked.here = record { unfound = steps.here; arena = x; pages = pages }
unfound_all s w _ _ whole x pages (unmarked.further n t u g i h) =
    unfound_more s t u w n whole (unfound_all s w t n whole x pages g) i h

pub unfound : (s t : State) (w : ArenaCopy) (n : ℕ) → w.broken ≡ None → IsArenaCopy s.upper s.memory w →
    AreConsistent s → GoesUnmarked w.marks s n t → StaysUnfound s t w n
unfound s t w n whole x linked g = unfound_all s w t n whole x (pages_there s linked) g

pub not_broken : {T : Type 0} (o : Option T) → is_some o ≡ false → o ≡ None
not_broken None e = refl
not_broken (Some x) e = cc
