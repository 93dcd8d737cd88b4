-- Edits stand in the order of their steps.
use Rattle.std.proofs.Common.{ℕ, ◌-◌, ◌^◌, ◌≤◌, List, [], ◌∷◌, ◌++◌, length, take, drop, refl, sym, subst, arith, inl, inr}
use Rattle.std.specs.List.{All}
use Rattle.std.proofs.lemmas.Bool.{cases_lt}
use Rattle.std.proofs.lemmas.List.{take_all, drop_all, take-append-le, drop-append-le, length-append}
use Rattle.std.proofs.lemmas.List.Elements.{All-nil, All-cons, All-push, All-weaker}
use Rattle.dm_services.specs.state.State.{State}
use Rattle.dm_history.specs.declared.change.TimedChange.{TimedChange}
use Rattle.dm_history.specs.Edits.{changed, edits_to}
use Rattle.dm_history.specs.Becomes.{BecomesBy, start, edited, stepped}
use Rattle.dm_history.specs.inner.Replays.{AreAfter}
use Rattle.dm_history.proofs.Leading.{changed-steps}
use Rattle.dm_history.proofs.OneState.{edit_of}
use Rattle.dm_history.proofs.Runs.{leads-rise}
use Rattle.dm_history.proofs.Walks.{front}
use Rattle.dm_history.proofs.Lists.{cut}

-- the count does not fall, and stays below 2^64
climbs : (s t : State) (es : List TimedChange) → s.steps ≤ 2 ^ 64 - 1 → BecomesBy s es t → (s.steps ≤ t.steps) ×
    (t.steps ≤ 2 ^ 64 - 1)
climbs s _ _ l start = (omega arith, l)
climbs s _ _ l (edited es t c b) =
    let before = climbs s t es l b in
    let e = changed-steps c t in
    (omega (arith, before.0, e), omega (arith, before.1, e))
climbs s _ _ l (stepped es t u b h) =
    let before = climbs s t es l b in
    let next = leads-rise t u before.1 h in
    (omega (arith, before.0, next.0), next.1)

pub edits-after : (s t : State) (es : List TimedChange) → s.steps ≤ 2 ^ 64 - 1 → BecomesBy s es t →
    All (λ e. s.steps ≤ e.step) es
edits-after s _ _ l start = All-nil (λ e. s.steps ≤ e.step)
edits-after s _ _ l (edited es t c b) = All-push (λ e. s.steps ≤ e.step) es (edit_of t c) (edits-after s t es l b)
    (climbs s t es l b).0
edits-after s _ _ l (stepped es t u b h) = edits-after s t es l b

-- the state after the first k edits
record Parted (o : State) (es : List TimedChange) (k : ℕ) (t : State) : Type 0 where
  at : State
  before : BecomesBy o (take k es) at
  after : BecomesBy at (drop k es) t

parted-whole : (o t : State) (es : List TimedChange) (k : ℕ) → BecomesBy o es t → length es ≤ k → Parted o es k t
parted-whole o t es k b l = record {
  at = t;
  before = subst (λ xs. BecomesBy o xs t) (sym (take_all k es l)) b;
  after = subst (λ xs. BecomesBy t xs t) (sym (drop_all k es l)) start;
}

parted : (o t : State) (es : List TimedChange) (k : ℕ) → BecomesBy o es t → Parted o es k t
parted o _ _ k start = parted-whole o o [] k start (omega arith)
parted o _ _ k (edited es t c b) = elim (cases_lt (length es) k) [
  | inl all ↦ parted-whole o (changed c t) (es ++ edit_of t c ∷ []) k (edited es t c b) (omega (
    arith,
    all,
    length-append es (edit_of t c ∷ []),
  ))
  | inr few ↦
      let add = edit_of t c ∷ [] in
      let p = parted o t es k b in
      record {
        at = p.at;
        before = subst (λ xs. BecomesBy o xs p.at) (sym (take-append-le k es add few)) p.before;
        after = subst (λ xs. BecomesBy p.at xs (changed c t)) (sym (drop-append-le k es add few))
            (edited (drop k es) t c p.after);
      }
]
parted o _ _ k (stepped es t u b h) =
    let p = parted o t es k b in
    record { at = p.at; before = p.before; after = stepped (drop k es) t u p.after h }

rest-after : (s t : State) (step : ℕ) (es : List TimedChange) → s.steps ≤ 2 ^ 64 - 1 → BecomesBy s es t →
    AreAfter step es → All (λ e. step ≤ e.step) es
rest-after s t step [] l b a = All-nil (λ e. step ≤ e.step)
rest-after s t step (x ∷ xs) l b a =
    let f = front s t (x ∷ xs) x xs b refl in
    let same = f.steps in
    let count = changed-steps x.change f.before in
    let bound = (climbs s f.before [] l f.becomes).1 in
    let rest = edits-after (changed x.change f.before) t xs (omega (arith, count, bound)) f.on in
    All-cons (λ e. step ≤ e.step) x xs (omega (arith, a))
    (All-weaker (λ e. (changed x.change f.before).steps ≤ e.step) (λ e. step ≤ e.step) (λ e h. omega (
      arith,
      h,
      count,
      same,
      a,
    )) xs rest)

-- those that were not made up to a step were made after it
pub later-edits : (o t : State) (step : ℕ) (es : List TimedChange) → o.steps ≤ 2 ^ 64 - 1 → BecomesBy o es t →
    All (λ e. step ≤ e.step) (drop (length (edits_to step es)) es)
later-edits o t step es l b =
    let k = length (edits_to step es) in
    let p = parted o t es k b in
    rest-after p.at t step (drop k es) (climbs o p.at (take k es) l p.before).1 p.after (cut step es).after
