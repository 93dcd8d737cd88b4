-- Looking for the last hit, part by part, and going back to it.
use Rattle.std.proofs.Common.{◌≡◌, ◌≢◌, ℕ, ◌+◌, ◌-◌, ◌^◌, ◌≤◌, ◌<◌, Bool, true, false, List, [], Option, Some, None, inl, inr, refl, sym, ◌∙◌, ap, subst, arith}
use Rattle.std.proofs.lemmas.Bool.{cases_lt}
use Rattle.dm_requests.specs.declared.request.Point.{Point}
use Rattle.dm_services.specs.declared.state.stop.Stop.{Stop}
use Rattle.dm_services.specs.declared.state.stop.Stop.TheVariants.{Steps as AllSteps, Memory as NoMemory}
use Rattle.dm_services.specs.state.State.{State}
use Rattle.dm_history.specs.Becomes.{BecomesBy, start}
use Rattle.dm_history.specs.Branches.{IsBranch, Reaches}
use Rattle.dm_history.specs.Timelines.{Timeline, Was, GoesBack}
use Rattle.dm_history.proofs.OneState.{one_state, rises}
use Rattle.dm_target.specs.declared.going.Pause.{Pause}
use Rattle.dm_target.specs.declared.going.Pause.TheVariants.{Arrived, Hit, Stopped}
use Rattle.dm_target.specs.declared.returning.Found.{Found}
use Rattle.dm_target.specs.declared.undoing.Undone.{Undone}
use Rattle.dm_target.specs.declared.undoing.Undone.TheVariants as undone
use Rattle.dm_target.specs.Going.{RunsPast, Continues, is_among, code_address}
use Rattle.dm_target.specs.Going as going
use Rattle.dm_target.specs.Watching.{unwatched}
use Rattle.dm_target.specs.Returning.{Misses, Meets, AreClear, Returns}
use Rattle.dm_target.specs.Returning as returning
use Rattle.dm_target.specs.inner.Surveying.{IsMet, ClearTo, MetAt, Seen, Stands, IsStand, IsLookedAt, IsSomeAfter, IsSurvey, WasMet, Shows, IsPart, IsLast, IsKnown, found_with}
use Rattle.dm_target.specs.inner.Surveying as surveying
use Rattle.dm_target.proofs.Searching.{misses_of, misses_stop, one_hit}

-- ---- one part

-- the start of a part: its first state may stand at a breakpoint
pub begun_at : (points : List ℕ) (watches : List Point) (m : State) (end : ℕ) (found : Option ℕ) (whole : Bool) →
    m.steps < end → IsStand points m end None found whole → Stands points watches m m found
begun_at points watches m end found whole l (surveying.over r) = absurd (omega (arith, l, r))
begun_at points watches m end found whole l (surveying.here less e) = surveying.here e
begun_at points watches m end found whole l (surveying.before less off) =
    surveying.before None off (surveying.none m.steps (λ s b after less2. absurd (omega (arith, after, less2))))

-- all of it was looked at
pub seen_survey : (points : List ℕ) (watches : List Point) (o : State) (end : ℕ) (last : Option ℕ) →
    Seen points watches o last end → IsSurvey points watches o end (found_with last true)
seen_survey points watches o end last (surveying.none j clear) = clear
seen_survey points watches o end last (surveying.last k j less since met clear) = (since, less, met, λ e. clear)

seen_before : (points : List ℕ) (watches : List Point) (o : State) (k j end : ℕ) (last : Option ℕ) → last ≡ Some k →
    j ≤ end → Seen points watches o last j → (o.steps ≤ k) × (k < end) × MetAt points watches o k
seen_before points watches o k j end last e l (surveying.none i clear) = (let no : None ≡ Some k = e in cc)
seen_before points watches o k j end last e l (surveying.last h i less since met clear) =
    let same : h ≡ k = cc in
    (omega (arith, since, same), omega (arith, less, l, same), subst (λ n. MetAt points watches o n) same met)

met_before : (points : List ℕ) (watches : List Point) (o m : State) (k end : ℕ) (last : Option ℕ) → last ≡ Some k →
    o.steps ≤ m.steps → m.steps < end → BecomesBy o [] m → Stands points watches o m last → (o.steps ≤ k) × (k < end) ×
    MetAt points watches o k
met_before points watches o m k end last e up l b (surveying.here there) =
    let same : m.steps ≡ k = cc in (
      omega (arith, up, same),
      omega (arith, l, same),
      subst (λ j. MetAt points watches o j) same (record {
        at = m;
        becomes = b;
        steps = refl;
        met = surveying.stands there;
      }),
    )
met_before points watches o m k end last e up l b (surveying.before same off seen) =
    seen_before points watches o k m.steps end last e (omega (arith, l)) seen

-- a part that was left before its end
pub left_survey : (points : List ℕ) (watches : List Point) (o m : State) (parts end : ℕ) (last : Option ℕ) → 0 < parts →
    IsSomeAfter parts last → o.steps ≤ m.steps → m.steps < end → BecomesBy o [] m → Stands points watches o m last →
    IsSurvey points watches o end (found_with last false)
left_survey points watches o m parts end None some there up l b stands = absurd (omega (arith, some, there))
left_survey points watches o m parts end (Some k) some there up l b stands =
    let x = met_before points watches o m k end (Some k) refl up l b stands in
    (x.0, x.1, x.2, λ e. absurd (let no : false ≡ true = e in cc))

pub none_after : (last : Option ℕ) → IsSomeAfter 0 last
none_after None = refl
none_after (Some k) = tt

pub left_at : (points : List ℕ) (watches : List Point) (o m : State) (parts end : ℕ) (last : Option ℕ)
    (result : Option Found) → result ≡ found_with last false → 0 < parts → end ≤ 2 ^ 64 - 1 → IsSomeAfter parts last →
    m.steps < end → BecomesBy o [] m →
    Stands points watches o m last → IsSurvey points watches o end result
left_at points watches o m parts end last result e some top there l b stands =
    subst (λ (x : Option Found). IsSurvey points watches o end x) (sym e)
    (left_survey points watches o m parts end last some there (rises o m [] b (omega (arith, l, top))) l b stands)

pub whole_at : (points : List ℕ) (watches : List Point) (o t : State) (end : ℕ) (last : Option ℕ) (whole : Bool)
    (result : Option Found) → result ≡ found_with last true → whole ≡ true →
    IsLookedAt points watches o end t last whole → IsSurvey points watches o end result
whole_at points watches o t end last whole result e f h =
    subst (λ (x : Option Found). IsSurvey points watches o end x) (sym e)
    (seen_survey points watches o end last (subst (λ (b : Bool). IsLookedAt points watches o end t last b) f h))

-- what one more look has shown
pub some_after : (points : List ℕ) (watches : List Point) (o t : State) (end parts : ℕ) (found : Option ℕ) →
    IsLookedAt points watches o end t found false → IsSomeAfter parts found
some_after points watches o t end parts None h = absurd h
some_after points watches o t end parts (Some k) h = tt

pub becomes_after : (points : List ℕ) (watches : List Point) (o t : State) (end : ℕ) (found : Option ℕ) →
    IsLookedAt points watches o end t found false → BecomesBy o [] t
becomes_after points watches o t end None h = absurd h
becomes_after points watches o t end (Some k) h = h.1

pub stands_after : (points : List ℕ) (watches : List Point) (o t : State) (end : ℕ) (found : Option ℕ) →
    IsLookedAt points watches o end t found false → Stands points watches o t found
stands_after points watches o t end None h = absurd h
stands_after points watches o t end (Some k) h = h.2

pub before_end : (points : List ℕ) (t : State) (end : ℕ) (last found : Option ℕ) (whole : Bool) →
    IsStand points t end last found whole → whole ≡ false → t.steps < end
before_end points t end last found whole (surveying.over r) e = (let no : true ≡ false = e in cc)
before_end points t end last found whole (surveying.here less there) e = less
before_end points t end last found whole (surveying.before less off) e = less

-- ---- part by part

pub clear_part : (points : List ℕ) (watches : List Point) (p b : Timeline) (wish from end : ℕ) → IsBranch p wish end b →
    b.machine.steps ≤ from → ClearTo points watches b.machine from end → AreClear points watches p from end
clear_part points watches p b wish from end x l clear = λ k s after before was.
    let count = was.steps in
    clear s (x.becomes k s (omega (arith, l, after)) before was) (omega (arith, count, after)) (omega (
      arith,
      count,
      before,
    ))

pub met_part : (points : List ℕ) (watches : List Point) (p b : Timeline) (wish k end : ℕ) → IsBranch p wish end b →
    k < end → MetAt points watches b.machine k → WasMet points watches p k
met_part points watches p b wish k end x l m =
    let count = m.steps in
    record {
      at = m.at;
      was = subst (λ j. Was p j m.at) m.steps (x.was m.at m.becomes (omega (arith, count, l)));
      met = m.met;
    }

pub clear_both : (points : List ℕ) (watches : List Point) (p : Timeline) (from k end : ℕ) →
    AreClear points watches p from k → AreClear points watches p k end → AreClear points watches p from end
clear_both points watches p from k end a b = λ j s after before was. elim (cases_lt j k) [
  | inl less ↦ a j s after less was
  | inr more ↦ b j s more before was
]

pub clear_none : (points : List ℕ) (watches : List Point) (p : Timeline) (end : ℕ) → AreClear points watches p end end
clear_none points watches p end = λ k s after before was. absurd (omega (arith, after, before))

pub clear_fewer : (points : List ℕ) (watches : List Point) (p : Timeline) (from to end : ℕ) → from ≤ to →
    AreClear points watches p from end → AreClear points watches p to end
clear_fewer points watches p from to end l a = λ k s after before was. a k s (omega (arith, l, after)) before was

shows_of : (points : List ℕ) (watches : List Point) (p b : Timeline) (wish end : ℕ) (found : Option Found) →
    IsBranch p wish end b → IsSurvey points watches b.machine end found →
    Shows points watches p b.machine.steps end found
shows_of points watches p b wish end None x s = clear_part points watches p b wish b.machine.steps end x (omega arith) s
shows_of points watches p b wish end (Some f) x s =
    let up = s.0 in (
      s.0,
      s.1,
      met_part points watches p b wish f.step end x s.1 s.2,
      λ e. clear_part points watches p b wish (f.step + 1) end x (omega (arith, up)) (s.3 e),
    )

pub part_of : (points : List ℕ) (watches : List Point) (p b : Timeline) (wish end from : ℕ) (found : Option Found) →
    IsBranch p wish end b → from ≡ b.machine.steps → (Reaches b.machine end →
    IsSurvey points watches b.machine end found) →
    IsPart points watches p wish end from found
part_of points watches p b wish end from found x e s =
    let since = x.since in
    let before = x.before in
    record {
      since = omega (arith, e, since);
      before = omega (arith, e, before);
      shows = subst (λ k. Shows points watches p k end found) (sym e) (shows_of points watches p b wish end found x
          (s x.reaches));
    }

-- a part without a hit
pub clear_more : (points : List ℕ) (watches : List Point) (p : Timeline) (from end : ℕ) (found : Option Found) →
    found ≡ None → Shows points watches p from end found → AreClear points watches p end p.machine.steps →
    AreClear points watches p from p.machine.steps
clear_more points watches p from end found e s clear =
    clear_both points watches p from end p.machine.steps (subst (λ (x : Option Found). Shows points watches p from end
    x) e s) clear

-- a part with one
pub record Hit_in (points : List ℕ) (watches : List Point) (p : Timeline) (from end : ℕ) (f : Found) : Type 0 where
  pub since : from ≤ f.step
  pub before : f.step < end
  pub met : WasMet points watches p f.step
  pub clear : f.is_last ≡ true → AreClear points watches p (f.step + 1) p.machine.steps

pub hit_in : (points : List ℕ) (watches : List Point) (p : Timeline) (from end : ℕ) (found : Option Found) (f : Found) →
    found ≡ Some f → Shows points watches p from end found → AreClear points watches p end p.machine.steps →
    Hit_in points watches p from end f
hit_in points watches p from end found f e s clear =
    let x : Shows points watches p from end (Some f) =
    subst (λ (y : Option Found). Shows points watches p from end y) e s in
    record {
      since = x.0;
      before = x.1;
      met = x.2;
      clear = λ last. clear_both points watches p (f.step
          + 1) end p.machine.steps (x.3 last) clear;
    }

pub known_hit : (points : List ℕ) (watches : List Point) (p : Timeline) (low end from : ℕ) (last : Option ℕ) (k : ℕ)
    (f : Found) → last ≡ Some f.step → k ≡ f.step + 1 → p.beginning.steps ≤ low → low ≤ from → end ≤ p.machine.steps →
    Hit_in points watches p from end f → IsKnown points watches p k last
known_hit points watches p low end from last k f e n o l top h =
    let since = h.since in
    let before = h.before in
    subst (λ (x : Option ℕ). IsKnown points watches p k x) (sym e) (
      n,
      omega (arith, o, l, since),
      omega (arith, before, top),
      h.met,
    )

pub same_known : (points : List ℕ) (watches : List Point) (p : Timeline) (low k : ℕ) (last found : Option ℕ) → k ≡ low →
    found ≡ last → IsKnown points watches p low last → IsKnown points watches p k found
same_known points watches p low k last found e f h =
    subst (λ (x : Option ℕ). IsKnown points watches p k x) (sym f) (subst (λ j. IsKnown points watches p j last)
    (sym e) h)

pub clear_at : (points : List ℕ) (watches : List Point) (p : Timeline) (from to : ℕ) → to ≡ from →
    AreClear points watches p from p.machine.steps → AreClear points watches p to p.machine.steps
clear_at points watches p from to e h = subst (λ k. AreClear points watches p k p.machine.steps) (sym e) h

-- nothing more is left to be looked at
pub known_last : (points : List ℕ) (watches : List Point) (p : Timeline) (low end : ℕ) (last : Option ℕ) → end ≤ low →
    AreClear points watches p end p.machine.steps → IsKnown points watches p low last → IsLast points watches p last
known_last points watches p low end None l clear k = clear_fewer points watches p end p.beginning.steps p.machine.steps
    (omega (arith, l, k)) clear
known_last points watches p low end (Some step) l clear k =
    let is = k.0 in
    (k.1, k.2, k.3, clear_fewer points watches p end (step + 1) p.machine.steps (omega (arith, l, is)) clear)

-- nothing is set
pub bare_last : (points : List ℕ) (watches : List Point) (p : Timeline) → points ≡ [] → watches ≡ [] →
    IsLast points watches p None
bare_last points watches p e f = λ k s after before was. record {
  apart = ap (λ (xs : List ℕ). is_among xs
      (code_address s)) e;
  misses = λ t run. unwatched f refl;
}

-- ---- what is told

passes_none : (points : List ℕ) (watches : List Point) (m t : State) (n : ℕ) → RunsPast points watches None m n t →
    n ≡ 0 → t ≡ m
passes_none points watches m t n going.here e = refl
passes_none points watches m t n (going.further k v u p run hits off) e = absurd (omega (arith, e))

passes_one : (points : List ℕ) (watches : List Point) (m t : State) (n : ℕ) → RunsPast points watches None m n t → n ≡ 1 →
    Misses watches m
passes_one points watches m t n going.here e = absurd (omega (arith, e))
passes_one points watches m t n (going.further k v u p run hits off) e =
    subst (λ (x : State). Misses watches x) (passes_none points watches m v k p (omega (arith, e)))
    (misses_of watches v t run hits)

pub told_hit : (points others : List ℕ) (watches : List Point) (m t : State) (pause : Pause) (point : Point) →
    pause ≡ Hit point → Continues others watches None m 1 pause t → Meets points watches m (undone.Hit point)
told_hit points others watches m t pause point is (going.plain why e f g h run) =
    (let no : Hit point ≡ Stopped why = sym is ∙ h in cc)
told_hit points others watches m t pause point is (going.arrived made v less h p run miss arr) =
    (let no : Hit point ≡ Arrived = sym is ∙ h in cc)
told_hit points others watches m t pause point is (going.hit made v which less h p run hits) =
    let same : point ≡ which = (let x : Hit point ≡ Hit which = sym is ∙ h in cc) in
    let here : v ≡ m = passes_none others watches m v made p (omega (arith, less)) in
    subst (λ (x : State). Meets points watches x (undone.Hit point)) here
    (subst (λ (q : Point). Meets points watches v (undone.Hit q)) (sym same) (returning.hits which t run hits))
told_hit points others watches m t pause point is (going.whole h p) = (let no : Hit point ≡ Stopped AllSteps = sym is
    ∙ h in cc)
told_hit points others watches m t pause point is (going.cut made v why less h other p run) =
    (let no : Hit point ≡ Stopped why = sym is ∙ h in cc)
told_hit points others watches m t pause point is (going.short made what less h watched at p) =
    (let no : Hit point ≡ Stopped NoMemory = sym is ∙ h in cc)

-- why the step hit nothing
data HitNothing (pause : Pause) : Type 0 where
  arrived : pause ≡ Arrived → HitNothing pause
  stopped : (stop : Stop) → pause ≡ Stopped stop → stop ≢ NoMemory → HitNothing pause

no_hit : (pause : Pause) (point : Point) → HitNothing pause → pause ≡ Hit point → ⊥
no_hit pause point (arrived e) h = (let no : Arrived ≡ Hit point = sym e ∙ h in cc)
no_hit pause point (stopped stop e q) h = (let no : Stopped stop ≡ Hit point = sym e ∙ h in cc)

no_want : (pause : Pause) (stop : Stop) → HitNothing pause → pause ≡ Stopped stop → stop ≢ NoMemory
no_want pause stop (arrived e) h = (let no : Arrived ≡ Stopped stop = sym e ∙ h in cc)
no_want pause stop (stopped why e q) h = (let same : why ≡ stop = (let x : Stopped why ≡ Stopped stop = sym e ∙ h in
    cc) in λ f. q (same ∙ f))

told_misses : (others : List ℕ) (watches : List Point) (m t : State) (pause : Pause) → HitNothing pause →
    Continues others watches None m 1 pause t → Misses watches m
told_misses others watches m t pause n (going.plain why e f g h run) = λ u r. unwatched f refl
told_misses others watches m t pause n (going.arrived made v less h p run miss arr) =
    subst (λ (x : State). Misses watches x) (passes_none others watches m v made p (omega (arith, less)))
    (misses_of watches v t run miss)
told_misses others watches m t pause n (going.hit made v which less h p run hits) = absurd (no_hit pause which n h)
told_misses others watches m t pause n (going.whole h p) = passes_one others watches m t 1 p refl
told_misses others watches m t pause n (going.cut made v why less h other p run) =
    subst (λ (x : State). Misses watches x) (passes_none others watches m v made p (omega (arith, less)))
    (misses_stop watches v t why other (no_want pause why n h) run)
told_misses others watches m t pause n (going.short made what less h watched at p) =
    absurd (no_want pause NoMemory n h refl)

hit_nothing : (points : List ℕ) (watches : List Point) (s : State) → Misses watches s → IsMet points watches s →
    Meets points watches s undone.Back
hit_nothing points watches s misses (surveying.stands e) = returning.stands e misses
hit_nothing points watches s misses (surveying.hits point t run hits) =
    absurd (let no : None ≡ Some point = one_hit watches s t None (Some point) (misses t run) hits in cc)

pub told_arrived : (points others : List ℕ) (watches : List Point) (m t : State) (pause : Pause) → pause ≡ Arrived →
    Continues others watches None m 1 pause t → IsMet points watches m → Meets points watches m undone.Back
told_arrived points others watches m t pause e c =
    hit_nothing points watches m (told_misses others watches m t pause (arrived e) c)

pub told_stopped : (points others : List ℕ) (watches : List Point) (m t : State) (pause : Pause) (stop : Stop) →
    pause ≡ Stopped stop → stop ≢ NoMemory → Continues others watches None m 1 pause t → IsMet points watches m →
    Meets points watches m undone.Back
told_stopped points others watches m t pause stop e q c =
    hit_nothing points watches m (told_misses others watches m t pause (stopped stop e q) c)

-- a branch that begins at this step stands where the history was
pub branch_at : (p b : Timeline) (step : ℕ) (s : State) → step < 2 ^ 64 - 1 → IsBranch p step (step + 1) b → Was p step s →
    s ≡ b.machine
branch_at p b step s l x was =
    let since = x.since in
    let before = x.before in
    let count = was.steps in
    one_state b.machine s b.machine [] (x.becomes step s (omega (arith, before)) (omega arith) was) start (omega (
      arith,
      since,
      before,
      count,
    )) (omega (arith, before, l))

-- ---- going back

pub back_met : (points : List ℕ) (watches : List Point) (p q : Timeline) (k : ℕ) (what : Undone) →
    p.machine.steps ≤ 2 ^ 64 - 1 → IsLast points watches p (Some k) → GoesBack p k q →
    ((s : State) → Was p k s → IsMet points watches s → Meets points watches s what) → Returns points watches p what q
back_met points watches p q k what top x back told =
    let before = x.1 in
    let m = x.2 in
    let same : m.at ≡ q.machine = one_state p.beginning m.at q.machine _ m.was.becomes back.was.becomes (m.was.steps
    ∙ sym back.was.steps) (let count = back.was.steps in omega (arith, before, top, count)) in
    returning.met k what q x.0 before back (subst (λ (s : State). Meets points watches s what) same
    (told m.at m.was m.met)) x.3
