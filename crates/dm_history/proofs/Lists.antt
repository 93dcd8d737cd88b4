-- The edits up to a step, and the others.
use Rattle.std.proofs.Common.{◌≡◌, ℕ, ◌+◌, ◌-◌, ◌≤◌, nat_le, Bool, true, false, cond, List, [], ◌∷◌, ◌++◌, length, take, drop, refl, sym, ◌∙◌, ap, subst, arith}
use Rattle.std.specs.List.{All}
use Rattle.std.proofs.lemmas.Bool.{leb-true, leb-false}
use Rattle.std.proofs.lemmas.List.{drop-drop, drop-take, take-take, take-append-drop}
use Rattle.std.proofs.lemmas.List.Elements.{All-nil, All-cons}
use Rattle.std.proofs.lemmas.List.Sums.{take_while-cons}
use Rattle.dm_history.specs.declared.change.TimedChange.{TimedChange}
use Rattle.dm_history.specs.Edits.{edits_to}
use Rattle.dm_history.specs.inner.Replays.{AreAfter}

abbrev is_made : ℕ → TimedChange → Bool
is_made step e = nat_le e.step step

-- a list from the front on, with what stands behind
pub record Cut (step : ℕ) (es : List TimedChange) : Type 0 where
  pub front : take (length (edits_to step es)) es ≡ edits_to step es
  pub within : All (λ e. e.step ≤ step) (edits_to step es)
  pub after : AreAfter step (drop (length (edits_to step es)) es)
  pub some : length (edits_to step es) ≤ length es

-- the same of any front
record CutAt (step : ℕ) (es front : List TimedChange) : Type 0 where
  pub is : take (length front) es ≡ front
  pub within : All (λ e. e.step ≤ step) front
  pub after : AreAfter step (drop (length front) es)
  pub some : length front ≤ length es

more : (step : ℕ) (e : TimedChange) (es front : List TimedChange) (b : Bool) → is_made step e ≡ b →
    CutAt step es front → CutAt step (e ∷ es) (cond b (e ∷ front) [])
more step e es front true made c =
    let some = c.some in
    record {
      is = ap (λ (xs : List TimedChange). e ∷ xs) c.is;
      within = All-cons (λ z. z.step ≤ step) e front (leb-true e.step step made) c.within;
      after = c.after;
      some = omega arith;
    }
more step e es front false made c = record {
  is = refl;
  within = All-nil (λ z. z.step ≤ step);
  after = leb-false e.step step made;
  some = omega arith;
}

cut-at : (step : ℕ) (es : List TimedChange) → CutAt step es (edits_to step es)
cut-at step [] = record { is = refl; within = All-nil (λ z. z.step ≤ step); after = tt; some = omega arith }
cut-at step (e ∷ es) =
    subst (CutAt step (e ∷ es)) (sym (take_while-cons (is_made step) e es)) (more step e es (edits_to step es)
    (is_made step e) refl (cut-at step es))

pub cut : (step : ℕ) (es : List TimedChange) → Cut step es
cut step es = let c = cut-at step es in record { front = c.is; within = c.within; after = c.after; some = c.some }

-- ---- a list in three parts

pub behind : {A : Type 0} (m n : ℕ) (xs : List A) → m ≤ n → take (n - m) (drop m xs) ++ drop n xs ≡ drop m xs
behind m n xs l =
    let e : m + (n - m) ≡ n = omega arith in
    ap (λ k. take (n - m) (drop m xs) ++ drop k xs) (sym e)
    ∙ ap (λ ys. take (n - m) (drop m xs) ++ ys) (sym (drop-drop (n - m) m xs))
    ∙ take-append-drop (n - m) (drop m xs)

pub before : {A : Type 0} (m n : ℕ) (xs : List A) → m ≤ n → take m xs ++ take (n - m) (drop m xs) ≡ take n xs
before m n xs l =
    let e : m + (n - m) ≡ n = omega arith in
    ap (λ ys. take m xs ++ ys) (sym (drop-take m (n - m) xs) ∙ ap (λ k. drop m (take k xs)) e)
    ∙ ap (λ ys. ys ++ drop m (take n xs)) (sym (take-take m n xs l))
    ∙ take-append-drop m (take n xs)
