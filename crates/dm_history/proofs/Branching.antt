-- A branch goes through the states of its history.
use Rattle.std.proofs.Common.{◌≡◌, ℕ, ◌+◌, ◌-◌, ◌^◌, ◌≤◌, ◌<◌, nat_le, Bool, true, false, cond, List, [], ◌∷◌, ◌++◌, length, take, drop, refl, sym, ◌∙◌, ap, subst, arith}
use Rattle.std.specs.List.{All}
use Rattle.std.proofs.lemmas.Bool.{leb-true, leb-false}
use Rattle.std.proofs.lemmas.List.{append-nil, take_all, drop_all}
use Rattle.std.proofs.lemmas.List.Elements.{All-nil, All-head, All-tail, All-weaker, All-same}
use Rattle.std.proofs.lemmas.List.Sums.{take_while-cons}
use Rattle.dm_services.specs.state.State.{State}
use Rattle.dm_history.specs.declared.change.TimedChange.{TimedChange}
use Rattle.dm_history.specs.declared.copies.Kept.{Kept}
use Rattle.dm_history.specs.Edits.{edits_to}
use Rattle.dm_history.specs.Becomes.{BecomesBy}
use Rattle.dm_history.specs.Timelines.{Timeline, new_timeline, Was}
use Rattle.dm_history.specs.Branches.{Reaches, IsBranch}
use Rattle.dm_history.specs.inner.Copies.{IsHistory}
use Rattle.dm_history.specs.inner.Replays.{AreAfter}
use Rattle.dm_history.proofs.OneState.{one_state, rises}
use Rattle.dm_history.proofs.Walks.{split, midway}
use Rattle.dm_history.proofs.Replaying.{becomes-join}
use Rattle.dm_history.proofs.Lists.{cut}
use Rattle.dm_history.proofs.Order.{later-edits}

-- ---- no edit lies between

abbrev is_made : ℕ → TimedChange → Bool
is_made step e = nat_le e.step step

same-front : (m n : ℕ) (e : TimedChange) (xs ys : List TimedChange) (a b : Bool) → m ≤ n → is_made m e ≡ a →
    is_made n e ≡ b → (All (λ z. z.step ≤ m) ys → xs ≡ ys) →
    All (λ z. z.step ≤ m) (cond b (e ∷ ys) []) → cond a (e ∷ xs) [] ≡ cond b (e ∷ ys) []
same-front m n e xs ys true true l f g h within = ap (λ (zs : List TimedChange). e
    ∷ zs) (h (All-tail (λ z. z.step ≤ m) e ys within))
same-front m n e xs ys true false l f g h within = absurd (omega (arith, l, leb-true e.step m f, leb-false e.step n g))
same-front m n e xs ys false true l f g h within = absurd (let low : e.step ≤ m =
    All-head (λ z. z.step ≤ m) e ys within in omega (arith, low, leb-false e.step m f))
same-front m n e xs ys false false l f g h within = refl

-- the edits up to a step that none of the later ones passes
pub quiet : (m n : ℕ) (es : List TimedChange) → m ≤ n → All (λ z. z.step ≤ m) (edits_to n es) →
    edits_to m es ≡ edits_to n es
quiet m n [] l within = refl
quiet m n (e ∷ es) l within =
    let a = take_while-cons (is_made m) e es in
    let b = take_while-cons (is_made n) e es in
    a
    ∙ same-front m n e (edits_to m es) (edits_to n es) (is_made m e) (is_made n e) l refl refl (quiet m n es l)
    (All-same (λ z. z.step ≤ m) (cond (is_made n e) (e ∷ edits_to n es) []) (edits_to n (e ∷ es)) (sym b) within)
    ∙ sym b

-- the same at any step between the two
pub between : (m k n : ℕ) (es : List TimedChange) → m ≤ k → k ≤ n → edits_to m es ≡ edits_to n es →
    edits_to k es ≡ edits_to m es
between m k n es l r e =
    let within : All (λ z. z.step ≤ m) (edits_to n es) = All-same (λ z. z.step ≤ m) (edits_to n es) (edits_to m es)
    (sym e) (cut m es).within in
    quiet k n es r (All-weaker (λ z. z.step ≤ m) (λ z. z.step ≤ k) (λ z h. omega (arith, h, l)) (edits_to n es) within)
    ∙ sym e

front-of : (p : Timeline) (es ds : List TimedChange) (n count : ℕ) → es ≡ p.edits → ds ≡ p.edits →
    count ≡ length (edits_to n es) → take count ds ≡ edits_to n p.edits
front-of p es ds n count f g e = ap (take count) g ∙ ap (λ k. take k p.edits) (e ∙ ap (λ xs. length (edits_to n xs)) f)
    ∙ (cut n p.edits).front

-- the latest of a step and of the edits before an end is before the end
pub latest-before : (p : Timeline) (es ds : List TimedChange) (wish end from count : ℕ) → es ≡ p.edits → ds ≡ p.edits →
    count ≡ length (edits_to (end - 1) es) → wish < end →
    ((n : ℕ) → wish ≤ n → All (λ e. e.step ≤ n) (take count ds) → from ≤ n) → from < end
latest-before p es ds wish end from count f g e l least =
    let few : from ≤ end - 1 = least (end - 1) (omega (arith, l)) (All-same (λ z. z.step ≤ end - 1) (take count ds)
    (edits_to (end - 1) p.edits) (front-of p es ds (end - 1) count f g e) (cut (end - 1) p.edits).within) in
    omega (arith, few, l)

-- and no edit lies between it and the end
pub latest-quiet : (p q : Timeline) (es ds : List TimedChange) (end from count : ℕ) → p ≡ q → es ≡ p.edits → ds ≡ p.edits →
    count ≡ length (edits_to (end - 1) es) → from < end → All (λ e. e.step ≤ from) (take count ds) →
    edits_to from q.edits ≡ edits_to (end - 1) q.edits
latest-quiet p q es ds end from count h f g e l within =
    subst (λ (r : Timeline). edits_to from r.edits ≡ edits_to (end - 1) r.edits) h
    (quiet from (end - 1) p.edits (omega (arith, l)) (All-same (λ z. z.step ≤ from) (edits_to (end - 1) p.edits)
    (take count ds) (sym (front-of p es ds (end - 1) count f g e)) within))

-- ---- the states of a branch

branch-was : (p : Timeline) (from end : ℕ) (m s : State) → Was p from m → from ≤ s.steps → s.steps < end →
    edits_to from p.edits ≡ edits_to (end - 1) p.edits → BecomesBy m [] s → Was p s.steps s
branch-was p from end m s w l r e b =
    let same = between from s.steps (end - 1) p.edits l (omega (arith, r)) e in
    record {
      becomes = subst (λ (es : List TimedChange). BecomesBy p.beginning es s) (append-nil (edits_to from p.edits)
          ∙ sym same) (becomes-join p.beginning m s (edits_to from p.edits) [] w.becomes b);
      steps = refl;
    }

was-branch : (p : Timeline) (from end k : ℕ) (m s : State) → p.beginning.steps ≤ from → end ≤ 2 ^ 64 - 1 → Was p from m →
    from ≤ k → k < end → edits_to from p.edits ≡ edits_to (end - 1) p.edits → Was p k s → BecomesBy m [] s
was-branch p from end k m s o top w l r e v =
    let es = edits_to from p.edits in
    let same = between from k (end - 1) p.edits l (omega (arith, r)) e in
    let whole : BecomesBy p.beginning es s = subst (λ (xs : List TimedChange). BecomesBy p.beginning xs s) same
    v.becomes in
    let count = v.steps in
    let front = take_all (length es) es (omega arith) in
    let rest = drop_all (length es) es (omega arith) in
    let x = split p.beginning s es (length es) from whole (omega arith) (omega (arith, l, r, top)) o (omega (
      arith,
      count,
      l,
    ))
    (All-same (λ z. z.step ≤ from) (take (length es) es) es front (cut from p.edits).within)
    (All-same (λ z. from ≤ z.step) (drop (length es) es) [] rest (All-nil (λ z. from ≤ z.step))) in
    let there : BecomesBy p.beginning es x.at = subst (λ (xs : List TimedChange). BecomesBy p.beginning xs x.at) front
    x.before in
    let now = w.steps in
    let one : x.at ≡ m = one_state p.beginning x.at m es there w.becomes (x.steps ∙ sym w.steps) (omega (
      arith,
      now,
      l,
      r,
      top,
    )) in
    subst (λ (u : State). BecomesBy u [] s) one (subst (λ (xs : List TimedChange). BecomesBy x.at xs s) rest x.after)

branch-reaches : (p : Timeline) (from end : ℕ) (m : State) → p.beginning.steps ≤ from → from < end → end ≤ p.machine.steps →
    p.machine.steps ≤ 2 ^ 64 - 1 → BecomesBy p.beginning p.edits p.machine → Was p from m →
    edits_to from p.edits ≡ edits_to (end - 1) p.edits → Reaches m end
branch-reaches p from end m o l r top b w e =
    let k = length (edits_to from p.edits) in
    let c = cut from p.edits in
    let x = split p.beginning p.machine p.edits k from b c.some (omega (arith, l, r, top)) o (omega (arith, l, r))
    (All-same (λ z. z.step ≤ from) (take k p.edits) (edits_to from p.edits) c.front c.within)
    (later-edits p.beginning p.machine from p.edits (omega (arith, o, l, r, top)) b) in
    let there : BecomesBy p.beginning (edits_to from p.edits) x.at =
    subst (λ (xs : List TimedChange). BecomesBy p.beginning xs x.at) c.front x.before in
    let now = w.steps in
    let one : x.at ≡ m = one_state p.beginning x.at m (edits_to from p.edits) there w.becomes (x.steps
    ∙ sym w.steps) (omega (arith, now, l, r, top)) in
    let rest : BecomesBy m (drop k p.edits) p.machine =
    subst (λ (u : State). BecomesBy u (drop k p.edits) p.machine) one x.after in
    let after : AreAfter (end - 1) (drop k p.edits) =
    subst (λ (es : List TimedChange). AreAfter (end - 1) (drop (length es) p.edits)) (sym e)
    (cut (end - 1) p.edits).after in
    let y = midway m p.machine (drop k p.edits) (end - 1) rest (omega (arith, l, r, top)) (omega (
      arith,
      now,
      l,
    )) (omega (arith, l, r)) after in
    let steps = y.steps in
    record { last = y.at; becomes = y.becomes; steps = omega (arith, steps, l); alive = y.alive }

pub branch-of : (p q b : Timeline) (cs : List Kept) (wish end from : ℕ) (m : State) → p ≡ q → IsHistory p cs →
    q.machine.steps ≤ 2 ^ 64 - 1 → q.beginning.steps ≤ wish → wish ≤ from → from < end → end ≤ q.machine.steps →
    edits_to from q.edits ≡ edits_to (end - 1) q.edits → Was q from m → b ≡ new_timeline m → IsBranch q wish end b
branch-of p q b cs wish end from m e h top o since before within same w f =
    let now = w.steps in
    let comes : BecomesBy q.beginning q.edits q.machine =
    subst (λ (r : Timeline). BecomesBy r.beginning r.edits r.machine) e h.becomes in
    subst (λ (r : Timeline). IsBranch q wish end r) (sym f) (record {
      begins = refl;
      since = omega (arith, now, since);
      before = omega (arith, now, before);
      reaches = branch-reaches q from end m (omega (arith, o, since)) before within top comes w same;
      was = λ s c l. branch-was q from end m s w (let up = rises m s [] c (omega (arith, l, within, top)) in
          omega (arith, up, now)) l same c;
      becomes = λ k s l r v. was-branch q from end k m s (omega (arith, o, since)) (omega (
        arith,
        within,
        top,
      )) w (omega (arith, now, l)) r same v;
    })
