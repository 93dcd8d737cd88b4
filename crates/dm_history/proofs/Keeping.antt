-- What a history keeps: its machine comes from the beginning, and each copy is on the way.
use Rattle.std.proofs.Common.{◌≡◌, ℕ, ◌+◌, ◌-◌, ◌^◌, ◌≤◌, ◌<◌, Bool, true, false, cond, List, [], ◌∷◌, ◌++◌, length, take, drop, get_or, sym, ◌∙◌, ap, subst, arith}
use Rattle.std.specs.List.{All, take_while}
use Rattle.std.proofs.lemmas.List.{length-append, take-append-le, drop-append-le, take_all, drop_all, take-take, drop-take, length-take, length-take-le, get_or-take}
use Rattle.std.proofs.lemmas.List.Elements.{All-nil, All-push, All-weaker, All-same, All-take, All-drop, All-append}
use Rattle.dm_services.specs.declared.state.stop.Stop.{Stop}
use Rattle.dm_services.specs.state.State.{State, HasProgram}
use Rattle.dm_machine.specs.Run.{IsRun}
use Rattle.dm_history.specs.declared.change.Change.{Change}
use Rattle.dm_history.specs.declared.change.TimedChange.{TimedChange}
use Rattle.dm_history.specs.declared.copies.Kept.{Kept}
use Rattle.dm_history.specs.Edits.{changed, edits_to}
use Rattle.dm_history.specs.Becomes.{BecomesBy, start, edited}
use Rattle.dm_history.specs.Timelines.{Timeline, new_timeline, at_state, with_change, Was, GoesBack}
use Rattle.dm_history.specs.inner.Copies.{IsOnTheWay, IsHistory, is_no_later, LosesOne, all, one, MayGain, none, more}
use Rattle.dm_history.proofs.Leading.{changed-steps}
use Rattle.dm_history.proofs.OneState.{edit_of}
use Rattle.dm_history.proofs.Runs.{run-becomes, run-rises}
use Rattle.dm_history.proofs.Replaying.{changed-loaded}
use Rattle.dm_history.proofs.Lists.{cut}
use Rattle.dm_history.proofs.Order.{later-edits}
use Rattle.dm_history.proofs.Going.{NoLater, no-later, front-pass, front-few}

pub history-new : (s : State) → HasProgram s → IsHistory (new_timeline s) []
history-new s h = record { becomes = start; beginning = h; loaded = h; ways = All-nil (IsOnTheWay (new_timeline s)) }

-- ---- steps

pub way-on : (p : Timeline) (t : State) (c : Kept) → p.machine.steps ≤ t.steps → IsOnTheWay p c →
    IsOnTheWay (at_state p t) c
way-on p t c l w =
    let before = w.before in
    record { made = w.made; becomes = w.becomes; next = w.next; before = omega (arith, before, l); loaded = w.loaded }

pub history-run : (p : Timeline) (cs : List Kept) (t : State) (n : ℕ) (stop : Stop) → p.machine.steps ≤ 2 ^ 64 - 1 →
    IsHistory p cs → IsRun p.machine n stop t → HasProgram t → IsHistory (at_state p t) cs
history-run p cs t n stop l h r loaded = record {
  becomes = run-becomes p.beginning p.machine t p.edits n stop h.becomes r;
  beginning = h.beginning;
  loaded = loaded;
  ways = All-weaker (IsOnTheWay p) (IsOnTheWay (at_state p t)) (λ c w. way-on p t c (run-rises p.machine t n stop l r)
      w) cs h.ways;
}

-- ---- an edit

way-edited : (p : Timeline) (e : Change) (c : Kept) → IsOnTheWay p c → IsOnTheWay (with_change p e) c
way-edited p e c w =
    let add = edit_of p.machine e ∷ [] in
    let made = w.made in
    let count = changed-steps e p.machine in
    let before = w.before in
    record {
      made = omega (arith, made, length-append p.edits add);
      becomes = subst (λ (xs : List TimedChange). BecomesBy p.beginning xs c.machine)
          (sym (take-append-le c.edits p.edits add w.made)) w.becomes;
      next = All-same (λ z. c.machine.steps ≤ z.step) (drop c.edits (p.edits ++ add)) (drop c.edits p.edits
          ++ add) (drop-append-le c.edits p.edits add w.made)
          (All-push (λ z. c.machine.steps ≤ z.step) (drop c.edits p.edits) (edit_of p.machine e) w.next w.before);
      before = omega (arith, count, before);
      loaded = w.loaded;
    }

pub history-edited : (p : Timeline) (cs : List Kept) (e : Change) → IsHistory p cs → HasProgram (changed e p.machine) →
    IsHistory (with_change p e) cs
history-edited p cs e h loaded = record {
  becomes = edited p.edits p.machine e h.becomes;
  beginning = h.beginning;
  loaded = loaded;
  ways = All-weaker (IsOnTheWay p) (IsOnTheWay (with_change p e)) (way-edited p e) cs h.ways;
}

-- ---- copies

pub with-copies : (p : Timeline) (cs ds : List Kept) → IsHistory p cs → All (IsOnTheWay p) ds → IsHistory p ds
with-copies p cs ds h a = record { becomes = h.becomes; beginning = h.beginning; loaded = h.loaded; ways = a }

way-now : (p : Timeline) (cs : List Kept) → IsHistory p cs → IsOnTheWay p (record {
  machine = p.machine;
  edits = length p.edits;
})
way-now p cs h = record {
  made = omega arith;
  becomes = subst (λ (xs : List TimedChange). BecomesBy p.beginning xs p.machine)
      (sym (take_all (length p.edits) p.edits (omega arith))) h.becomes;
  next = All-same (λ z. p.machine.steps ≤ z.step) (drop (length p.edits) p.edits) []
      (drop_all (length p.edits) p.edits (omega arith)) (All-nil (λ z. p.machine.steps ≤ z.step));
  before = omega arith;
  loaded = h.loaded;
}

history-kept : (p : Timeline) (cs : List Kept) → IsHistory p cs → IsHistory p (cs ++ record {
  machine = p.machine;
  edits = length p.edits;
} ∷ [])
history-kept p cs h = with-copies p cs _ h (All-push (IsOnTheWay p) cs _ h.ways (way-now p cs h))

history-removed : (p : Timeline) (cs : List Kept) (i : ℕ) → IsHistory p cs → IsHistory p (take i cs ++ drop (i + 1) cs)
history-removed p cs i h =
    with-copies p cs _ h (All-append (IsOnTheWay p) (take i cs) (drop (i + 1) cs) (All-take (IsOnTheWay p) i cs h.ways)
    (All-drop (IsOnTheWay p) (i + 1) cs h.ways))

pub history-fewer : (p : Timeline) (cs ds : List Kept) → IsHistory p cs → LosesOne cs ds → IsHistory p ds
history-fewer p cs ds h (all e) = subst (IsHistory p) (sym e) h
history-fewer p cs ds h (one i e) = subst (IsHistory p) (sym e) (history-removed p cs i h)

pub history-more : (p : Timeline) (cs ds : List Kept) (m : State) (k : ℕ) → IsHistory p cs → m ≡ p.machine →
    k ≡ length p.edits → MayGain cs (record { machine = m; edits = k }) ds → IsHistory p ds
history-more p cs ds m k h e f (none g) = subst (IsHistory p) (sym g) h
history-more p cs ds m k h e f (more g) =
    let same : cs ++ record { machine = m; edits = k } ∷ [] ≡ cs ++ record {
      machine = p.machine;
      edits = length p.edits;
    } ∷ []
    = ap (λ s. cs ++ record { machine = s; edits = k } ∷ []) e ∙ ap (λ j. cs ++ record {
      machine = p.machine;
      edits = j;
    } ∷ []) f in
    subst (IsHistory p) (sym (g ∙ same)) (history-kept p cs h)

pub edited-history : (p : Timeline) (cs : List Kept) (e f : Change) (step : ℕ) (es : List TimedChange) (m : State) →
    IsHistory p cs → step ≡ p.machine.steps → f ≡ e → es ≡ p.edits ++ record { step = step; change = f } ∷ [] →
    m ≡ changed e p.machine →
    IsHistory (record { beginning = p.beginning; edits = es; machine = m }) cs
edited-history p cs e f step es m h n same made moved =
    let whole : es ≡ p.edits ++ edit_of p.machine e ∷ [] = made ∙ ap (λ j. p.edits ++ record { step = j; change = f }
    ∷ []) n ∙ ap (λ (z : Change). p.edits ++ edit_of p.machine z ∷ []) same in
    subst (λ xs. IsHistory (record { beginning = p.beginning; edits = xs; machine = m }) cs) (sym whole)
    (subst (λ (s : State). IsHistory (record {
      beginning = p.beginning;
      edits = p.edits ++ edit_of p.machine e ∷ [];
      machine = s;
    }) cs) (sym moved)
    (history-edited p cs e h (changed-loaded e p.machine h.loaded)))

pub same-on : (p q r x : Timeline) → q ≡ at_state p q.machine → r ≡ q → x ≡ at_state r x.machine → x ≡ at_state p x.machine
same-on p q r x a b c = c ∙ ap (λ (z : Timeline). at_state z x.machine) (b ∙ a)

-- ---- going back

way-taken : (p : Timeline) (step count : ℕ) (t : State) (c : Kept) → t.steps ≡ step → count ≤ length p.edits →
    IsOnTheWay p c → NoLater step count c →
    IsOnTheWay (record { beginning = p.beginning; edits = take count p.edits; machine = t }) c
way-taken p step count t c e some w n =
    let few = n.some in
    let now = n.before in
    let length_is = length-take-le count p.edits some in
    let rest : drop c.edits (take count p.edits) ≡ take (count - c.edits) (drop c.edits p.edits)
    = ap (λ j. drop c.edits (take j p.edits)) (let whole : count ≡ c.edits + (count - c.edits) = omega (arith, few) in
    whole) ∙ drop-take c.edits (count - c.edits) p.edits in
    record {
      made = omega (arith, few, length_is);
      becomes = subst (λ xs. BecomesBy p.beginning xs c.machine) (sym (take-take c.edits count p.edits few)) w.becomes;
      next = All-same (λ z. c.machine.steps ≤ z.step) (drop c.edits (take count p.edits))
          (take (count - c.edits) (drop c.edits p.edits)) rest
          (All-take (λ z. c.machine.steps ≤ z.step) (count - c.edits) (drop c.edits p.edits) w.next);
      before = omega (arith, now, e);
      loaded = w.loaded;
    }

ways-taken : (p : Timeline) (cs : List Kept) (step count kept : ℕ) (t : State) → IsHistory p cs → t.steps ≡ step →
    count ≤ length p.edits → kept ≡ length (take_while (is_no_later step count) cs) →
    All (IsOnTheWay (record { beginning = p.beginning; edits = take count p.edits; machine = t })) (take kept cs)
ways-taken p cs step count kept t h e some m = λ k d l.
    let q : Timeline = record { beginning = p.beginning; edits = take count p.edits; machine = t } in
    let few = front-few (is_no_later step count) cs in
    let long = length-take kept cs in
    let under : k < kept = omega (arith, l, long) in
    let passes = no-later step count (get_or cs k d) (front-pass (is_no_later step count) cs k d (omega (
      arith,
      m,
      under,
    ))) in
    subst (IsOnTheWay q) (sym (get_or-take kept cs k d under))
    (way-taken p step count t (get_or cs k d) e some (h.ways k d (omega (arith, m, under, few))) passes)

pub history-taken : (p : Timeline) (cs : List Kept) (step count kept : ℕ) (t : State) → IsHistory p cs → Was p step t →
    HasProgram t → count ≡ length (edits_to step p.edits) →
    kept ≡ length (take_while (is_no_later step count) cs) → IsHistory (record {
      beginning = p.beginning;
      edits = take count p.edits;
      machine = t;
    }) (take kept cs)
history-taken p cs step count kept t h w loaded n m =
    let c = cut step p.edits in
    let some = c.some in
    record {
      becomes = subst (λ xs. BecomesBy p.beginning xs t) (sym (ap (λ j. take j p.edits) n ∙ c.front)) w.becomes;
      beginning = h.beginning;
      loaded = loaded;
      ways = ways-taken p cs step count kept t h w.steps (omega (arith, n, some)) m;
    }

-- the history after going back, where its parts have names of their own
pub taken-history : (p q : Timeline) (cs ds : List Kept) (es fs : List TimedChange) (step count kept : ℕ) (t : State) →
    p ≡ q → IsHistory p cs → Was q step t → HasProgram t → fs ≡ p.edits → count ≡ length (edits_to step fs) →
    ds ≡ cs → kept ≡ length (take_while (is_no_later step count) ds) → es ≡ take count p.edits → (xs : List Kept) →
    xs ≡ take kept cs → IsHistory (record { beginning = p.beginning; edits = es; machine = t }) xs
taken-history p q cs ds es fs step count kept t e h w loaded f n g m x xs y =
    let was : Was p step t = subst (λ (r : Timeline). Was r step t) (sym e) w in
    let n2 : count ≡ length (edits_to step p.edits) = n ∙ ap (λ zs. length (edits_to step zs)) f in
    let m2 : kept ≡ length (take_while (is_no_later step count) cs) =
    m ∙ ap (λ zs. length (take_while (is_no_later step count) zs)) g in
    let whole = history-taken p cs step count kept t h was loaded n2 m2 in
    subst (IsHistory (record { beginning = p.beginning; edits = es; machine = t })) (sym y)
    (subst (λ zs. IsHistory (record { beginning = p.beginning; edits = zs; machine = t }) (take kept cs)) (sym x) whole)

pub taken-back : (p q : Timeline) (es fs : List TimedChange) (step count : ℕ) (t : State) → p ≡ q → Was q step t →
    fs ≡ p.edits → count ≡ length (edits_to step fs) → es ≡ take count p.edits →
    GoesBack q step (record { beginning = p.beginning; edits = es; machine = t })
taken-back p q es fs step count t e w f n x =
    let c = cut step p.edits in
    let n2 : count ≡ length (edits_to step p.edits) = n ∙ ap (λ zs. length (edits_to step zs)) f in
    record {
      beginning = ap (λ (r : Timeline). r.beginning) e;
      edits = x ∙ ap (λ k. take k p.edits) n2 ∙ c.front ∙ ap (λ (r : Timeline). edits_to step r.edits) e;
      was = w;
    }

-- ---- the beginning

pub beginning-history : (s o m : State) (es : List TimedChange) (cs : List Kept) → o ≡ s → m ≡ s → es ≡ [] → cs ≡ [] →
    HasProgram s → IsHistory (record { beginning = o; edits = es; machine = m }) cs
beginning-history s o m es cs e f g h loaded =
    subst (IsHistory (record { beginning = o; edits = es; machine = m })) (sym h)
    (subst (λ xs. IsHistory (record { beginning = o; edits = xs; machine = m }) []) (sym g)
    (subst (λ (u : State). IsHistory (record { beginning = o; edits = []; machine = u }) []) (sym f)
    (subst (λ (u : State). IsHistory (record { beginning = u; edits = []; machine = s }) []) (sym e)
    (history-new s loaded))))

pub beginning-view : (p q : Timeline) (es : List TimedChange) (m : State) → p ≡ q → es ≡ [] → m ≡ p.beginning →
    record { beginning = p.beginning; edits = es; machine = m } ≡ new_timeline q.beginning
beginning-view p q es m e f g =
    ap (λ xs. record { beginning = p.beginning; edits = xs; machine = m }) f
    ∙ ap (λ (s : State). record { beginning = p.beginning; edits = []; machine = s }) g
    ∙ ap (λ (r : Timeline). new_timeline r.beginning) e

-- ---- what may become of copies

pub gains : (old new : List Kept) (copy : Kept) (b : Bool) → new ≡ cond b (old ++ copy ∷ []) old → MayGain old copy new
gains old new copy true e = more e
gains old new copy false e = none e

-- ---- a copy of an earlier state

gained-history : (p : Timeline) (cs ds : List Kept) (copy : Kept) → IsHistory p cs → IsOnTheWay p copy →
    MayGain cs copy ds → IsHistory p ds
gained-history p cs ds copy h w (none e) = subst (IsHistory p) (sym e) h
gained-history p cs ds copy h w (more e) = subst (IsHistory p) (sym e) (with-copies p cs (cs ++ copy
    ∷ []) h (All-push (IsOnTheWay p) cs copy h.ways w))

way-then : (p : Timeline) (step : ℕ) (m : State) → p.beginning.steps ≤ 2 ^ 64 - 1 → step ≤ p.machine.steps →
    BecomesBy p.beginning p.edits p.machine → Was p step m → HasProgram m →
    IsOnTheWay p (record { machine = m; edits = length (edits_to step p.edits) })
way-then p step m l b h w loaded =
    let c = cut step p.edits in
    let now = w.steps in
    record {
      made = c.some;
      becomes = subst (λ xs. BecomesBy p.beginning xs m) (sym c.front) w.becomes;
      next = All-weaker (λ z. step ≤ z.step) (λ z. m.steps ≤ z.step) (λ z k. omega (
        arith,
        k,
        now,
      )) (drop (length (edits_to step p.edits)) p.edits) (later-edits p.beginning p.machine step p.edits l h);
      before = omega (arith, b, now);
      loaded = loaded;
    }

pub history-inserted : (p q : Timeline) (cs ds es fs : List Kept) (xs : List TimedChange) (step count kept : ℕ)
    (m : State) → p ≡ q → IsHistory p cs → p.beginning.steps ≤ 2 ^ 64 - 1 → step ≤ q.machine.steps → Was q step m →
    HasProgram m →
    xs ≡ p.edits → count ≡ length (edits_to step xs) → ds ≡ take kept cs → LosesOne ds es →
    MayGain es (record { machine = m; edits = count }) fs → IsHistory p fs
history-inserted p q cs ds es fs xs step count kept m e h l b w loaded f n g lost gained =
    let was : Was p step m = subst (λ (r : Timeline). Was r step m) (sym e) w in
    let before : step ≤ p.machine.steps = subst (λ (r : Timeline). step ≤ r.machine.steps) (sym e) b in
    let n2 : count ≡ length (edits_to step p.edits) = n ∙ ap (λ zs. length (edits_to step zs)) f in
    let cutoff : IsHistory p ds = subst (IsHistory p) (sym g) (with-copies p cs (take kept cs) h
    (All-take (IsOnTheWay p) kept cs h.ways)) in
    let fewer = history-fewer p ds es cutoff lost in
    let way : IsOnTheWay p (record { machine = m; edits = count }) =
    subst (λ k. IsOnTheWay p (record { machine = m; edits = k })) (sym n2)
    (way-then p step m l before h.becomes was loaded) in
    gained-history p es fs (record { machine = m; edits = count }) fewer way gained
