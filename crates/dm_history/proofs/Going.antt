-- Going back: from a copy on the way to the state after so many steps.
use Rattle.std.proofs.Common.{◌≡◌, ℕ, ◌+◌, ◌-◌, ◌^◌, ◌≤◌, ◌<◌, ◌&&◌, nat_le, Bool, true, false, List, ◌++◌, length, take, drop, get_or, refl, sym, ◌∙◌, ap, subst, arith}
use Rattle.std.specs.List.{take_while}
use Rattle.std.proofs.lemmas.Bool.{leb-true}
use Rattle.std.proofs.lemmas.List.{drop-take}
use Rattle.std.proofs.lemmas.List.Folds.{length-prefix_len}
use Rattle.std.proofs.lemmas.List.Sums.{prefix_len_passes, prefix_len-le-length}
use Rattle.std.proofs.lemmas.List.Elements.{All-get_or, All-same, All-drop}
use Rattle.dm_services.specs.state.State.{State}
use Rattle.dm_history.specs.declared.change.TimedChange.{TimedChange}
use Rattle.dm_history.specs.declared.copies.Kept.{Kept}
use Rattle.dm_history.specs.Edits.{edits_to}
use Rattle.dm_history.specs.Becomes.{BecomesBy, start}
use Rattle.dm_history.specs.Timelines.{Timeline, Was}
use Rattle.dm_history.specs.inner.Copies.{IsOnTheWay, IsHistory, is_no_later}
use Rattle.dm_history.specs.inner.Replays.{LeadsBeyond, IsReplayed, IsBase}
use Rattle.dm_history.proofs.OneState.{one_state, rises, edits-before}
use Rattle.dm_history.proofs.Walks.{split}
use Rattle.dm_history.proofs.Replaying.{becomes-join}
use Rattle.dm_history.proofs.Lists.{cut, behind, before}

-- ---- where to begin

beginning-base : (p : Timeline) (cs : List Kept) (step : ℕ) → IsHistory p cs → p.beginning.steps ≤ step →
    IsBase p step p.beginning 0
beginning-base p cs step h l = record {
  some = omega arith;
  before = l;
  leads = start;
  on = h.becomes;
  loaded = h.beginning;
}

pub base-beginning : (p q : Timeline) (cs : List Kept) (step : ℕ) → p ≡ q → IsHistory p cs → q.beginning.steps ≤ step →
    IsBase q step p.beginning 0
base-beginning p q cs step e h l =
    subst (λ (r : Timeline). IsBase r step p.beginning 0) e (beginning-base p cs step h
    (subst (λ (r : Timeline). r.beginning.steps ≤ step) (sym e) l))

-- a copy that is no later
pub record NoLater (step count : ℕ) (c : Kept) : Type 0 where
  pub before : c.machine.steps ≤ step
  pub some : c.edits ≤ count

both : (a b : Bool) → (a && b) ≡ true → (a ≡ true) × (b ≡ true)
both true true e = (refl, refl)
both true false e = absurd (cc)
both false b e = absurd (cc)

pub no-later : (step count : ℕ) (c : Kept) → is_no_later step count c ≡ true → NoLater step count c
no-later step count c e =
    let x = both (nat_le c.machine.steps step) (nat_le c.edits count) e in
    record { before = leb-true c.machine.steps step x.0; some = leb-true c.edits count x.1 }

base-copy : (p : Timeline) (step : ℕ) (c : Kept) → step < 2 ^ 64 - 1 → BecomesBy p.beginning p.edits p.machine →
    IsOnTheWay p c → NoLater step (length (edits_to step p.edits)) c → IsBase p step c.machine c.edits
base-copy p step c l b w n =
    let now = n.before in
    let start_at = rises p.beginning c.machine (take c.edits p.edits) w.becomes (omega (arith, now, l)) in
    let done = edits-before p.beginning c.machine (take c.edits p.edits) w.becomes (omega (arith, now, l)) in
    let x = split p.beginning p.machine p.edits c.edits c.machine.steps b w.made (omega (
      arith,
      now,
      l,
    )) start_at w.before done w.next in
    let same : x.at ≡ c.machine = one_state p.beginning x.at c.machine (take c.edits p.edits) x.before w.becomes x.steps
    (omega (arith, now, l)) in
    record {
      some = n.some;
      before = n.before;
      leads = w.becomes;
      on = subst (λ (s : State). BecomesBy s (drop c.edits p.edits) p.machine) same x.after;
      loaded = w.loaded;
    }

-- the elements from the front on that pass, by their number
pub front-pass : {A : Type 0} (test : A → Bool) (xs : List A) (k : ℕ) (d : A) → k < length (take_while test xs) →
    test (get_or xs k d) ≡ true
front-pass test xs k d l = let e = length-prefix_len test xs in prefix_len_passes test xs k d (omega (arith, e, l))

pub front-few : {A : Type 0} (test : A → Bool) (xs : List A) → length (take_while test xs) ≤ length xs
front-few test xs = let e = length-prefix_len test xs in omega (arith, e, prefix_len-le-length test xs)

kept-base : (p : Timeline) (cs : List Kept) (step k : ℕ) (c : Kept) → step < 2 ^ 64 - 1 → IsHistory p cs →
    k < length (take_while (is_no_later step (length (edits_to step p.edits))) cs) → c ≡ get_or cs k c →
    IsBase p step c.machine c.edits
kept-base p cs step k c l h few is =
    let count = length (edits_to step p.edits) in
    let passes : is_no_later step count c ≡ true = ap (is_no_later step count) is
    ∙ front-pass (is_no_later step count) cs k c few in
    let way : IsOnTheWay p c = subst (IsOnTheWay p) (sym is) (All-get_or (IsOnTheWay p) cs k c (omega (
      arith,
      few,
      front-few (is_no_later step count) cs,
    )) h.ways) in
    base-copy p step c l h.becomes way (no-later step count c passes)

pub base-kept : (p q : Timeline) (cs ds : List Kept) (es : List TimedChange) (step k count kept : ℕ) (c : Kept) → p ≡ q →
    step < 2 ^ 64 - 1 → IsHistory p cs → es ≡ p.edits → ds ≡ cs →
    count ≡ length (edits_to step es) → kept ≡ length (take_while (is_no_later step count) ds) → k < kept →
    c ≡ get_or cs k c → IsBase q step c.machine c.edits
base-kept p q cs ds es step k count kept c e l h f g n m few is =
    let n2 : count ≡ length (edits_to step p.edits) = n ∙ ap (λ xs. length (edits_to step xs)) f in
    let m2 : kept ≡ length (take_while (is_no_later step (length (edits_to step p.edits))) cs) =
    m ∙ ap (λ xs. length (take_while (is_no_later step count) xs)) g
    ∙ ap (λ j. length (take_while (is_no_later step j) cs)) n2 in
    subst (λ (r : Timeline). IsBase r step c.machine c.edits) e (kept-base p cs step k c l h (subst (λ j. k < j) m2 few) is)

-- ---- what is done again

pub base-known : (p : Timeline) (step : ℕ) (s : State) (made : ℕ) → step < p.machine.steps → IsBase p step s made →
    LeadsBeyond s (take (length (edits_to step p.edits) - made) (drop made p.edits)) step
base-known p step s made l b =
    let count = length (edits_to step p.edits) in
    let c = cut step p.edits in
    let some = b.some in
    let whole : made + (count - made) ≡ count = omega (arith, some) in
    let rest : drop made (edits_to step p.edits) ≡ take (count - made) (drop made p.edits)
    = ap (drop made) (sym c.front ∙ ap (λ j. take j p.edits) (sym whole)) ∙ drop-take made (count - made) p.edits in
    record {
      within = All-same (λ z. z.step ≤ step) (take (count - made) (drop made p.edits))
          (drop made (edits_to step p.edits)) (sym rest) (All-drop (λ z. z.step ≤ step) made
          (edits_to step p.edits) c.within);
      others = drop count p.edits;
      after = c.after;
      present = p.machine;
      becomes = subst (λ (xs : List TimedChange). BecomesBy s xs p.machine) (sym (behind made count p.edits b.some))
          b.on;
      later = l;
    }

pub base-was : (p : Timeline) (step : ℕ) (s t : State) (made : ℕ) → IsBase p step s made →
    IsReplayed s (take (length (edits_to step p.edits) - made) (drop made p.edits)) step t → Was p step t
base-was p step s t made b r =
    let count = length (edits_to step p.edits) in
    let c = cut step p.edits in
    let parts : take made p.edits ++ take (count - made) (drop made p.edits) ≡ edits_to step p.edits =
    before made count p.edits b.some ∙ c.front in
    record {
      becomes = subst (λ (xs : List TimedChange). BecomesBy p.beginning xs t) parts (becomes-join p.beginning s t
          (take made p.edits) (take (count - made) (drop made p.edits)) b.leads r.becomes);
      steps = r.steps;
    }

-- the same, where the parts have names of their own
pub known-of : (p q : Timeline) (step : ℕ) (s m : State) (made count : ℕ) (es ds : List TimedChange) → q ≡ p →
    es ≡ q.edits → ds ≡ q.edits → count ≡ length (edits_to step es) → m ≡ s → step < p.machine.steps →
    IsBase p step s made →
    LeadsBeyond m (take (count - made) (drop made ds)) step
known-of p q step s m made count es ds e f g n same l b =
    let edits : ds ≡ p.edits = g ∙ ap (λ (r : Timeline). r.edits) e in
    let all : count ≡ length (edits_to step p.edits) = n ∙ ap (λ xs. length (edits_to step xs)) (f
    ∙ ap (λ (r : Timeline). r.edits) e) in
    subst (λ (t : State). LeadsBeyond t (take (count - made) (drop made ds)) step) (sym same)
    (subst (λ xs. LeadsBeyond s (take (count - made) (drop made xs)) step) (sym edits)
    (subst (λ k. LeadsBeyond s (take (k - made) (drop made p.edits)) step) (sym all) (base-known p step s made l b)))

pub was-of : (p q : Timeline) (step : ℕ) (s m t : State) (made count : ℕ) (es ds : List TimedChange) → q ≡ p →
    es ≡ q.edits → ds ≡ q.edits → count ≡ length (edits_to step es) → m ≡ s → IsBase p step s made →
    IsReplayed m (take (count - made) (drop made ds)) step t → Was p step t
was-of p q step s m t made count es ds e f g n same b r =
    let edits : ds ≡ p.edits = g ∙ ap (λ (r : Timeline). r.edits) e in
    let all : count ≡ length (edits_to step p.edits) = n ∙ ap (λ xs. length (edits_to step xs)) (f
    ∙ ap (λ (r : Timeline). r.edits) e) in
    base-was p step s t made b
    (subst (λ k. IsReplayed s (take (k - made) (drop made p.edits)) step t) all
    (subst (λ xs. IsReplayed s (take (count - made) (drop made xs)) step t) edits
    (subst (λ (u : State). IsReplayed u (take (count - made) (drop made ds)) step t) same r)))
