-- Which states on the way are hits.
use Rattle.std.proofs.Common.{◌≡◌, ◌≢◌, ℕ, ◌+◌, ◌-◌, ◌^◌, ◌≤◌, ◌<◌, ◌||◌, Bool, true, false, List, [], Option, Some, None, inl, inr, refl, sym, ◌∙◌, ap, subst, arith}
use Rattle.std.specs.List.{find}
use Rattle.std.proofs.lemmas.Bool.{cases_lt}
use Rattle.std.proofs.lemmas.List.Elements.{All-nil}
use Rattle.dm_ins.specs.declared.ins.Ins.{Ins}
use Rattle.dm_cpu.specs.Guest.{guest}
use Rattle.dm_space.specs.EntryPoints.{entry_point_at}
use Rattle.dm_touches.specs.Touches.{reads, writes}
use Rattle.dm_requests.specs.declared.request.Point.{Point}
use Rattle.dm_services.specs.declared.state.stop.Stop.{Stop}
use Rattle.dm_services.specs.declared.state.stop.Stop.TheVariants.{Steps as AllSteps, Memory as NoMemory}
use Rattle.dm_services.specs.state.State.{State}
use Rattle.dm_machine.specs.Step.{fetched}
use Rattle.dm_machine.specs.Run.{IsRun, whole}
use Rattle.dm_machine.proofs.OneRun.{same-begins, length-fetched}
use Rattle.dm_machine.proofs.OneStop.{run-one}
use Rattle.dm_history.specs.Becomes.{BecomesBy, stepped, HasStepTo, on}
use Rattle.dm_history.specs.Branches.{Reaches}
use Rattle.dm_history.proofs.Leading.{leads-steps}
use Rattle.dm_history.proofs.OneState.{one_state, rises}
use Rattle.dm_history.proofs.Runs.{all-made, run-more}
use Rattle.dm_history.proofs.Walks.{split, all-goes}
use Rattle.dm_target.specs.declared.going.Pause.{Pause}
use Rattle.dm_target.specs.declared.going.Pause.TheVariants.{Arrived, Hit, Stopped}
use Rattle.dm_target.specs.Going.{RunsPast, Continues, has_arrived, is_among, code_address}
use Rattle.dm_target.specs.Going as going
use Rattle.dm_target.specs.Watching.{Hits, unwatched, acted, performed, is_touched, is_changed}
use Rattle.dm_target.specs.Returning.{Misses}
use Rattle.dm_target.specs.inner.Surveying.{IsMet, ClearTo, MetAt, Seen, Stands, IsStand, IsLookedAt}
use Rattle.dm_target.specs.inner.Surveying as surveying
use Rattle.dm_target.proofs.Stepping.{one_of}

-- ---- a step has one end, and hits one watchpoint

no_memory : AllSteps ≢ NoMemory
no_memory e = cc

pub one_end : (s t u : State) → IsRun s 1 AllSteps t → IsRun s 1 AllSteps u → t ≡ u
one_end s t u a b = (run-one s t u 1 AllSteps AllSteps a b no_memory no_memory).1

pub misses_of : (watches : List Point) (s t : State) → IsRun s 1 AllSteps t → Hits watches s t None → Misses watches s
misses_of watches s t a h u b = subst (λ (v : State). Hits watches s v None) (one_end s t u a b) h

-- a step that stops hits nothing
pub misses_stop : (watches : List Point) (s t : State) (stop : Stop) → stop ≢ AllSteps → stop ≢ NoMemory →
    IsRun s 1 stop t → Misses watches s
misses_stop watches s t stop p q a u b = absurd (p (run-one s t u 1 stop AllSteps a b q no_memory).0)

find_nothing : (f : Point → Bool) (watches : List Point) → watches ≡ [] → find f watches ≡ None
find_nothing f watches e = ap (find f) e

both_there : {A : Type 0} (o : Option A) (a : A) → o ≡ Some a → o ≡ None → ⊥
both_there o a e f = cc

pub one_hit : (watches : List Point) (s t : State) (a b : Option Point) → Hits watches s t a → Hits watches s t b →
    a ≡ b
one_hit watches s t a b (unwatched e h) (unwatched f g) = h ∙ sym g
one_hit watches s t a b (unwatched e h) (acted what at g) =
    h ∙ sym (g ∙ find_nothing (is_changed s.memory t.memory) watches e)
one_hit watches s t a b (unwatched e h) (performed i k at x g) =
    h ∙ sym (g ∙ find_nothing (is_touched s.memory.a20 (reads (guest s.cpu s.memory) i k)
    (writes (guest s.cpu s.memory) i k)) watches e)
one_hit watches s t a b (acted what at g) (unwatched e h) = g ∙ find_nothing (is_changed s.memory t.memory) watches e
    ∙ sym h
one_hit watches s t a b (acted what at g) (acted other there h) = g ∙ sym h
one_hit watches s t a b (acted what at g) (performed i k none x h) =
    absurd (both_there (entry_point_at s.cpu.cs s.cpu.ip) what at none)
one_hit watches s t a b (performed i k at x g) (unwatched e h) =
    g ∙ find_nothing (is_touched s.memory.a20 (reads (guest s.cpu s.memory) i k) (writes (guest s.cpu s.memory) i k))
    watches e ∙ sym h
one_hit watches s t a b (performed i k none x g) (acted what at h) =
    absurd (both_there (entry_point_at s.cpu.cs s.cpu.ip) what at none)
one_hit watches s t a b (performed i k none x g) (performed j m there y h) =
    let same = same-begins (fetched s.memory s.cpu) i j k m (length-fetched s.memory s.cpu) x y in
    let F : Ins → ℕ → Option Point = λ z n. find (is_touched s.memory.a20 (reads (guest s.cpu s.memory) z n)
    (writes (guest s.cpu s.memory) z n)) watches in
    g ∙ ap (λ (z : Ins). F z k) same.instruction ∙ ap (λ (n : ℕ). F j n) same.length_is ∙ sym h

-- ---- steps on the way

pub run_leads : (s t : State) → IsRun s 1 AllSteps t → HasStepTo s t
run_leads s t a = on (one_of s t 1 (all-made s t 1 AllSteps refl a).goes refl)

-- the states from m up to this count are no hits, but m may stand at a breakpoint
abbrev pub Way : List ℕ → List Point → State → State → ℕ → Type 0
Way points watches o m end = (s : State) → BecomesBy o [] s → m.steps ≤ s.steps → s.steps < end →
    (m.steps < s.steps → is_among points (code_address s) ≡ false) × Misses watches s

-- the way to t, and the step from there
way_more : (points : List ℕ) (watches : List Point) (o m t : State) (end : ℕ) → t.steps + 1 ≡ end → end ≤ 2 ^ 64 - 1 →
    BecomesBy o [] t → (m.steps < t.steps → is_among points (code_address t) ≡ false) → Misses watches t →
    Way points watches o m t.steps →
    Way points watches o m end
way_more points watches o m t end e top b apart miss way = λ s c l r. elim (cases_lt s.steps t.steps) [
  | inl less ↦ way s c l less
  | inr more ↦
      let now : t.steps ≡ s.steps = omega (arith, e, more, r) in
      let same : t ≡ s = one_state o t s [] b c now (omega (arith, r, top)) in (
        λ after. subst (λ (x : State). is_among points (code_address x) ≡ false) same (apart (omega (
          arith,
          after,
          now,
        ))),
        subst (λ (x : State). Misses watches x) same miss,
      )
]

left_false : (a b : Bool) → (a || b) ≡ false → a ≡ false
left_false true b e = absurd (cc)
left_false false b e = refl

left_true : (a : Bool) → (a || false) ≡ true → a ≡ true
left_true true e = refl
left_true false e = e

pub apart_of : (points : List ℕ) (s : State) → has_arrived points None s ≡ false →
    is_among points (code_address s) ≡ false
apart_of points s e = left_false (is_among points (code_address s)) false e

pub among_of : (points : List ℕ) (s : State) → has_arrived points None s ≡ true →
    is_among points (code_address s) ≡ true
among_of points s e = left_true (is_among points (code_address s)) e

-- where steps that passed have led
record Walked (points : List ℕ) (watches : List Point) (o m : State) (n : ℕ) (t : State) : Type 0 where
  pub becomes : BecomesBy o [] t
  pub steps : t.steps ≡ m.steps + n
  pub way : Way points watches o m t.steps
  pub apart : m.steps < t.steps → is_among points (code_address t) ≡ false

-- one more step is counted
counted_more : (s t : State) → HasStepTo s t → s.steps < 2 ^ 64 - 1 → t.steps ≡ s.steps + 1
counted_more s t h l = let e = leads-steps s t h in omega (arith, e, l)

walked : (points : List ℕ) (watches : List Point) (o m t : State) (n : ℕ) → RunsPast points watches None m n t →
    BecomesBy o [] m → m.steps + n ≤ 2 ^ 64 - 1 → Walked points watches o m n t
walked points watches o m t n going.here b top = record {
  becomes = b;
  steps = omega arith;
  way = λ s c l r. absurd (omega (arith, l, r));
  apart = λ l. absurd (omega (arith, l));
}
walked points watches o m t n (going.further k v u p run hits off) b top =
    let w = walked points watches o m v k p b (omega (arith, top)) in
    let count = w.steps in
    let lead = run_leads v t run in
    let next = counted_more v t lead (omega (arith, count, top)) in
    record {
      becomes = stepped [] v t w.becomes lead;
      steps = omega (arith, count, next);
      way = way_more points watches o m v t.steps (sym next) (omega (arith, count, next, top)) w.becomes w.apart
          (misses_of watches v t run hits) w.way;
      apart = λ l. apart_of points t off;
    }

-- ---- what is known of hits on the way

met_stands : (points : List ℕ) (watches : List Point) (o m : State) → BecomesBy o [] m →
    is_among points (code_address m) ≡ true → MetAt points watches o m.steps
met_stands points watches o m b e = record { at = m; becomes = b; steps = refl; met = surveying.stands e }

clear_on : (points : List ℕ) (watches : List Point) (o m : State) (end : ℕ) → BecomesBy o [] m → end ≤ 2 ^ 64 - 1 →
    is_among points (code_address m) ≡ false → Way points watches o m end → ClearTo points watches o m.steps end
clear_on points watches o m end b top off way = λ s c l r. elim (cases_lt m.steps s.steps) [
  | inl after ↦ record { apart = (way s c l r).0 after; misses = (way s c l r).1 }
  | inr now ↦
      let same : m ≡ s = one_state o m s [] b c (omega (arith, l, now)) (omega (arith, r, top)) in
      record {
        apart = subst (λ (x : State). is_among points (code_address x) ≡ false) same off;
        misses = (way s c l r).1;
      }
]

clear_join : (points : List ℕ) (watches : List Point) (o : State) (from k end : ℕ) → ClearTo points watches o from k →
    ClearTo points watches o k end → ClearTo points watches o from end
clear_join points watches o from k end a b = λ s c l r. elim (cases_lt s.steps k) [
  | inl less ↦ a s c l less
  | inr more ↦ b s c more r
]

seen_more : (points : List ℕ) (watches : List Point) (o : State) (last : Option ℕ) (k end : ℕ) → k ≤ end →
    Seen points watches o last k → ClearTo points watches o k end → Seen points watches o last end
seen_more points watches o last k end l (surveying.none j a) b =
    surveying.none end (clear_join points watches o o.steps k end a b)
seen_more points watches o last k end l (surveying.last h j less since met a) b =
    surveying.last h end (omega (arith, less, l)) since met (clear_join points watches o (h + 1) k end a b)

way_seen : (points : List ℕ) (watches : List Point) (o m : State) (last : Option ℕ) (end : ℕ) → BecomesBy o [] m →
    m.steps < end → end ≤ 2 ^ 64 - 1 → Stands points watches o m last → Way points watches o m end →
    Seen points watches o last end
way_seen points watches o m last end b l top (surveying.here e) way =
    surveying.last m.steps end l (rises o m [] b (omega (arith, l, top))) (met_stands points watches o m b e)
    (λ s c after r. record {
      apart = (way s c (omega (arith, after)) r).0 (omega (arith, after));
      misses = (way s c (omega (arith, after)) r).1;
    })
way_seen points watches o m last end b l top (surveying.before same off seen) way =
    seen_more points watches o last m.steps end (omega (arith, l)) seen (clear_on points watches o m end b top off way)

-- ---- a stop before the end

-- a stop that is none of those to which the program comes
no_stop : (o s t : State) (end : ℕ) (stop : Stop) → stop ≢ AllSteps → stop ≢ NoMemory → IsRun s 1 stop t →
    BecomesBy o [] s → end ≤ 2 ^ 64 - 1 → Reaches o end → s.steps + 1 < end → ⊥
no_stop o s t end stop p q run b top r l =
    let count = r.steps in
    let x = split o r.last [] 0 s.steps r.becomes (omega arith) (omega (arith, l, top)) (rises o s [] b (omega (
      arith,
      l,
      top,
    ))) (omega (arith, count, l)) (All-nil (λ e. e.step ≤ s.steps)) (All-nil (λ e. s.steps ≤ e.step)) in
    let same : x.at ≡ s = one_state o x.at s [] x.before b x.steps (omega (arith, l, top)) in
    let after : BecomesBy s [] r.last = subst (λ (u : State). BecomesBy u [] r.last) same x.after in
    let gone = all-goes s r.last [] after refl r.alive (omega (arith, count, top)) in
    let made = gone.steps in
    let all : IsRun s gone.made AllSteps r.last = whole gone.alive refl gone.goes in
    let more : IsRun s gone.made stop t = run-more s t 1 gone.made stop (omega (arith, made, count, l)) p run in
    p (run-one s t r.last gone.made stop AllSteps more all q no_memory).0

stop_same : (a b : Stop) → Stopped a ≡ Stopped b → a ≡ b
stop_same a b e = cc

-- nothing is set
way_bare : (points : List ℕ) (watches : List Point) (o m : State) (end : ℕ) → points ≡ [] → watches ≡ [] →
    Way points watches o m end
way_bare points watches o m end e f = λ s c l r. (
  λ after. ap (λ (xs : List ℕ). is_among xs (code_address s)) e,
  λ t run. unwatched f refl,
)

way_cut : (points : List ℕ) (watches : List Point) (o m s t : State) (n end : ℕ) (stop : Stop) → stop ≢ AllSteps →
    stop ≢ NoMemory → IsRun s 1 stop t → Walked points watches o m n s → m.steps + n < end → end ≤ 2 ^ 64 - 1 →
    Reaches o end →
    Way points watches o m end
way_cut points watches o m s t n end stop p q run w l top r =
    let count = w.steps in
    elim (cases_lt (s.steps + 1) end) [
      | inl less ↦ absurd (no_stop o s t end stop p q run w.becomes top r less)
      | inr now ↦ way_more points watches o m s end (omega (arith, count, now, l)) top w.becomes w.apart
          (misses_stop watches s t stop p q run) w.way
    ]

pub stopped_seen : (points : List ℕ) (watches : List Point) (o m t : State) (last : Option ℕ) (end : ℕ) (stop : Stop)
    (pause : Pause) → pause ≡ Stopped stop → stop ≢ NoMemory → BecomesBy o [] m → m.steps < end → end ≤ 2 ^ 64 - 1 →
    Reaches o end →
    Stands points watches o m last → Continues points watches None m (end - m.steps) pause t →
    Seen points watches o last end
stopped_seen points watches o m t last end stop pause is q b l top r stands (going.plain why e f g h run) =
    way_seen points watches o m last end b l top stands (way_bare points watches o m end e f)
stopped_seen points watches o m t last end stop pause is q b l top r stands
    (going.arrived made v less h p run miss off) = (let no : Stopped stop ≡ Arrived = sym is ∙ h in cc)
stopped_seen points watches o m t last end stop pause is q b l top r stands (going.hit made v point less h p run hits) =
    (let no : Stopped stop ≡ Hit point = sym is ∙ h in cc)
stopped_seen points watches o m t last end stop pause is q b l top r stands (going.whole h p) =
    let w = walked points watches o m t (end - m.steps) p b (omega (arith, l, top)) in
    let count = w.steps in
    let all : t.steps ≡ end = omega (arith, count, l) in
    way_seen points watches o m last end b l top stands (subst (λ k. Way points watches o m k) all w.way)
stopped_seen points watches o m t last end stop pause is q b l top r stands (going.cut made v why less h other p run) =
    let same : stop ≡ why = stop_same stop why (sym is ∙ h) in
    let w = walked points watches o m v made p b (omega (arith, less, top)) in
    way_seen points watches o m last end b l top stands
    (way_cut points watches o m v t made end why other (λ e. q (same ∙ e)) run w (omega (arith, less)) top r)
stopped_seen points watches o m t last end stop pause is q b l top r stands
    (going.short made what less h watched at p) = absurd (q (stop_same stop NoMemory (sym is ∙ h)))

-- ---- a hit

-- t is where the steps have ended
over_end : (points : List ℕ) (watches : List Point) (o t : State) (k : ℕ) (end : ℕ) (before found : Option ℕ)
    (full : Bool) → before ≡ Some k → t.steps ≤ end → BecomesBy o [] t → Seen points watches o before t.steps →
    IsStand points t end before found full →
    IsLookedAt points watches o end t found full
over_end points watches o t k end before found full e l b seen (surveying.over r) =
    subst (λ j. Seen points watches o before j) (let same : t.steps ≡ end = omega (arith, l, r) in same) seen
over_end points watches o t k end before found full e l b seen (surveying.here less there) =
    (less, b, surveying.here there)
over_end points watches o t k end before found full e l b seen (surveying.before less off) =
    subst (λ (x : Option ℕ). IsLookedAt points watches o end t x false) (sym e)
    (less, b, surveying.before (Some k) off (subst (λ (x : Option ℕ). Seen points watches o x t.steps) e seen))

met_hits : (points : List ℕ) (watches : List Point) (o s t : State) (point : Point) → BecomesBy o [] s →
    IsRun s 1 AllSteps t → Hits watches s t (Some point) → MetAt points watches o s.steps
met_hits points watches o s t point b run h = record {
  at = s;
  becomes = b;
  steps = refl;
  met = surveying.hits point t run h;
}

nothing_between : (points : List ℕ) (watches : List Point) (o : State) (from end : ℕ) → end ≤ from →
    ClearTo points watches o from end
nothing_between points watches o from end l = λ s c after before. absurd (omega (arith, l, after, before))

pub hit_seen : (points : List ℕ) (watches : List Point) (o m t : State) (point : Point) (step end : ℕ)
    (found : Option ℕ) (full : Bool) (pause : Pause) → pause ≡ Hit point → BecomesBy o [] m → m.steps < end →
    end ≤ 2 ^ 64 - 1 → step ≡ t.steps - 1 →
    Continues points watches None m (end - m.steps) pause t → IsStand points t end (Some step) found full →
    IsLookedAt points watches o end t found full
hit_seen points watches o m t point step end found full pause is b l top now (going.plain why e f g h run) s =
    (let no : Hit point ≡ Stopped why = sym is ∙ h in cc)
hit_seen points watches o m t point step end found full pause is b l top now
    (going.arrived made v less h p run miss off) s = (let no : Hit point ≡ Arrived = sym is ∙ h in cc)
hit_seen points watches o m t point step end found full pause is b l top now (going.hit made v which less h p run hits)
    s =
    let w = walked points watches o m v made p b (omega (arith, less, top)) in
    let count = w.steps in
    let lead = run_leads v t run in
    let next = counted_more v t lead (omega (arith, count, less, top)) in
    let then : step ≡ v.steps = omega (arith, now, next) in
    let up = rises o v [] w.becomes (omega (arith, count, less, top)) in
    let seen : Seen points watches o (Some v.steps) t.steps =
    surveying.last v.steps t.steps (omega (arith, next)) up (met_hits points watches o v t which w.becomes run hits)
    (nothing_between points watches o (v.steps + 1) t.steps (omega (arith, next))) in
    over_end points watches o t step end (Some step) found full refl (omega (
      arith,
      count,
      next,
      less,
    )) (stepped [] v t w.becomes lead)
    (subst (λ k. Seen points watches o (Some k) t.steps) (sym then) seen) s
hit_seen points watches o m t point step end found full pause is b l top now (going.whole h p) s =
    (let no : Hit point ≡ Stopped AllSteps = sym is ∙ h in cc)
hit_seen points watches o m t point step end found full pause is b l top now (going.cut made v why less h other p run)
    s = (let no : Hit point ≡ Stopped why = sym is ∙ h in cc)
hit_seen points watches o m t point step end found full pause is b l top now (going.short made what less h watched at p)
    s = (let no : Hit point ≡ Stopped NoMemory = sym is ∙ h in cc)

-- ---- a breakpoint

arrived_end : (points : List ℕ) (watches : List Point) (o t : State) (end : ℕ) (before found : Option ℕ) (full : Bool) →
    is_among points (code_address t) ≡ true → t.steps ≤ end → BecomesBy o [] t → Seen points watches o before t.steps →
    IsStand points t end before found full → IsLookedAt points watches o end t found full
arrived_end points watches o t end before found full there l b seen (surveying.over r) =
    subst (λ j. Seen points watches o before j) (let same : t.steps ≡ end = omega (arith, l, r) in same) seen
arrived_end points watches o t end before found full there l b seen (surveying.here less e) =
    (less, b, surveying.here e)
arrived_end points watches o t end before found full there l b seen (surveying.before less off) =
    (let no : true ≡ false = sym there ∙ off in cc)

pub arrived_seen : (points : List ℕ) (watches : List Point) (o m t : State) (last : Option ℕ) (end : ℕ)
    (found : Option ℕ) (full : Bool) (pause : Pause) → pause ≡ Arrived → BecomesBy o [] m → m.steps < end →
    end ≤ 2 ^ 64 - 1 →
    Stands points watches o m last → Continues points watches None m (end - m.steps) pause t →
    IsStand points t end last found full → IsLookedAt points watches o end t found full
arrived_seen points watches o m t last end found full pause is b l top stands (going.plain why e f g h run) s =
    (let no : Arrived ≡ Stopped why = sym is ∙ h in cc)
arrived_seen points watches o m t last end found full pause is b l top stands
    (going.arrived made v less h p run miss arr) s =
    let w = walked points watches o m v made p b (omega (arith, less, top)) in
    let count = w.steps in
    let lead = run_leads v t run in
    let next = counted_more v t lead (omega (arith, count, less, top)) in
    let way = way_more points watches o m v t.steps (sym next) (omega (arith, count, next, less, top)) w.becomes w.apart
    (misses_of watches v t run miss) w.way in
    let seen = way_seen points watches o m last t.steps b (omega (arith, count, next)) (omega (
      arith,
      count,
      next,
      less,
      top,
    )) stands way in
    arrived_end points watches o t end last found full (among_of points t arr) (omega (
      arith,
      count,
      next,
      less,
    )) (stepped [] v t w.becomes lead) seen s
arrived_seen points watches o m t last end found full pause is b l top stands (going.hit made v point less h p run hits)
    s = (let no : Arrived ≡ Hit point = sym is ∙ h in cc)
arrived_seen points watches o m t last end found full pause is b l top stands (going.whole h p) s =
    (let no : Arrived ≡ Stopped AllSteps = sym is ∙ h in cc)
arrived_seen points watches o m t last end found full pause is b l top stands (going.cut made v why less h other p run)
    s = (let no : Arrived ≡ Stopped why = sym is ∙ h in cc)
arrived_seen points watches o m t last end found full pause is b l top stands
    (going.short made what less h watched at p) s = (let no : Arrived ≡ Stopped NoMemory = sym is ∙ h in cc)
