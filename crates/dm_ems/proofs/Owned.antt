-- What windows show, while pages come and go.
use Rattle.std.proofs.Common.{◌≡◌, ◌≢◌, ℕ, zero, suc, ◌+◌, ◌-◌, ◌<◌, Bool, true, false, ◌==◌, cond, List, [], ◌∷◌, ◌++◌, Option, Some, None, map, length, get_or, set, remove, position, refl, sym, ◌∙◌, ap, subst, arith, inl, inr, length-append}
use Rattle.std.specs.Prelude.{IfSome, IsSome, filter, slice_get}
use Rattle.std.proofs.lemmas.List.Quantifiers.{position-Some}
use Rattle.std.proofs.lemmas.List.Edits.{length-remove, get_or-remove_below, get_or-remove_above}
use Rattle.std.proofs.lemmas.Bool.{cases_lt}
use Rattle.std.proofs.lemmas.Bool.Decides.{nat_tests}
use Rattle.dm_space.specs.Unseen.{shows}
use Rattle.dm_ems.specs.declared.tables.Handle.{Handle}
use Rattle.dm_ems.specs.declared.tables.Page.{Page}
use Rattle.dm_ems.specs.Tables.{unmapped, unmapped_saved, unmapped_slot, is_block, is_of}
use Rattle.dm_ems.specs.Consistent.{block_at, handle_at, IsUsed, IsOwned, ShowsPages, SavesPages}

-- ---- pages of one list are pages of another

pub if_some : (o : Option ℕ) (P Q : ℕ → Type 0) → ((b : ℕ) → P b → Q b) → IfSome o P → IfSome o Q
if_some None P Q f h = tt
if_some (Some b) P Q f h = f b h

-- what windows show once a block is gone
unmapped_one : (P Q : ℕ → Type 0) (block : ℕ) → ((b : ℕ) → b ≢ block → P b → Q b) → (w : Option ℕ) → IfSome w P →
    IfSome (unmapped block w) Q
unmapped_one P Q block f None h = tt
unmapped_one P Q block f (Some b) h = either (b == block) refl
  where
    either : (t : Bool) → (b == block) ≡ t → IfSome (cond t None (Some b)) Q
    either true e = tt
    either false e = f b (λ s. let n : (b == block) ≡ true = grind (arith, nat_tests, s) in cc) h

pub unmapped_each : (P Q : ℕ → Type 0) (block : ℕ) → ((b : ℕ) → b ≢ block → P b → Q b) → (ws : List (Option ℕ)) →
    ((k : ℕ) → IfSome (get_or ws k None) P) → (k : ℕ) → IfSome (get_or (map (unmapped block) ws) k None) Q
unmapped_each P Q block f [] h k = tt
unmapped_each P Q block f (w ∷ ws) h zero = unmapped_one P Q block f w (h 0)
unmapped_each P Q block f (w ∷ ws) h (suc k) = unmapped_each P Q block f ws (λ i. h (suc i)) k

shows_none : (block : ℕ) (w : Option ℕ) (ws : List (Option ℕ)) → shows ws block ≡ false →
    shows (unmapped block w ∷ ws) block ≡ false
shows_none block None ws h = h
shows_none block (Some b) ws h = elim (b == block) as (λ t. (b == block) ≡ t → shows (cond t None (Some b) ∷ ws) block
    ≡ false) [ true ↦ λ e. h | false ↦ λ e. rw e h ] refl

pub shows_unmapped : (block : ℕ) (ws : List (Option ℕ)) → shows (map (unmapped block) ws) block ≡ false
shows_unmapped block [] = refl
shows_unmapped block (w ∷ ws) = shows_none block w _ (shows_unmapped block ws)

-- ---- saved windows

pub saves_more : (ps qs : List Page) → ((b : ℕ) → IsOwned ps b → IsOwned qs b) → (s : Option Handle) → SavesPages ps s →
    SavesPages qs s
saves_more ps qs f None h = tt
saves_more ps qs f (Some handle) h = shows_more handle.saved h
  where
    shows_more : (o : Option (List (Option ℕ))) → IfSome o (ShowsPages ps) → IfSome o (ShowsPages qs)
    shows_more None h = tt
    shows_more (Some ws) h = λ k. if_some (get_or ws k None) (IsOwned ps) (IsOwned qs) f (h k)

unmapped_slot_one : (ps qs : List Page) (block : ℕ) → ((b : ℕ) → b ≢ block → IsOwned ps b → IsOwned qs b) →
    (s : Option Handle) → SavesPages ps s → SavesPages qs (unmapped_slot block s)
unmapped_slot_one ps qs block f None h = tt
unmapped_slot_one ps qs block f (Some handle) h = shows_less handle.saved h
  where
    shows_less : (o : Option (List (Option ℕ))) → IfSome o (ShowsPages ps) →
        IfSome (unmapped_saved block o) (ShowsPages qs)
    shows_less None h = tt
    shows_less (Some ws) h = unmapped_each (IsOwned ps) (IsOwned qs) block f ws h

pub unmapped_slot_each : (ps qs : List Page) (block : ℕ) → ((b : ℕ) → b ≢ block → IsOwned ps b → IsOwned qs b) →
    (ss : List (Option Handle)) → ((h : ℕ) → SavesPages ps (get_or ss h None)) → (h : ℕ) →
    SavesPages qs (get_or (map (unmapped_slot block) ss) h None)
unmapped_slot_each ps qs block f [] h k = tt
unmapped_slot_each ps qs block f (s ∷ ss) h zero = unmapped_slot_one ps qs block f s (h 0)
unmapped_slot_each ps qs block f (s ∷ ss) h (suc k) = unmapped_slot_each ps qs block f ss (λ i. h (suc i)) k

pub slot_each : (ps : List Page) (ss : List (Option Handle)) (i : ℕ) (s : Option Handle) →
    ((h : ℕ) → SavesPages ps (get_or ss h None)) → SavesPages ps s → (h : ℕ) →
    SavesPages ps (get_or (set ss i s) h None)
slot_each ps [] i s h p k = tt
slot_each ps (x ∷ ss) zero s h p zero = p
slot_each ps (x ∷ ss) zero s h p (suc k) = h (suc k)
slot_each ps (x ∷ ss) (suc i) s h p zero = h 0
slot_each ps (x ∷ ss) (suc i) s h p (suc k) = slot_each ps ss i s (λ j. h (suc j)) p k

-- ---- handles in use

-- another entry, or none where no page has the handle
pub used_set : (hs : List (Option Handle)) (i : ℕ) (s : Option Handle) (h : ℕ) → IsUsed hs h → (h ≡ i → IsSome s) →
    IsUsed (set hs i s) h
used_set [] i s h u q = u
used_set (x ∷ hs) zero s zero u q = q refl
used_set (x ∷ hs) zero s (suc h) u q = u
used_set (x ∷ hs) (suc i) s zero u q = u
used_set (x ∷ hs) (suc i) s (suc h) u q = used_set hs i s h u (λ e. q (ap suc e))

unmapped_slot_used : (block : ℕ) (s : Option Handle) → IsSome s → IsSome (unmapped_slot block s)
unmapped_slot_used block None u = u
unmapped_slot_used block (Some handle) u = refl

pub used_unmapped : (block : ℕ) (hs : List (Option Handle)) (h : ℕ) → IsUsed hs h →
    IsUsed (map (unmapped_slot block) hs) h
used_unmapped block [] h u = u
used_unmapped block (s ∷ hs) zero u = unmapped_slot_used block s u
used_unmapped block (s ∷ hs) (suc h) u = used_unmapped block hs h u

-- ---- a page comes

pub handle_pushed : (ps : List Page) (p : Page) (k : ℕ) → k < length ps → handle_at (ps ++ p ∷ []) k ≡ handle_at ps k
handle_pushed [] p k h = absurd (omega arith)
handle_pushed (q ∷ ps) p zero h = refl
handle_pushed (q ∷ ps) p (suc k) h = handle_pushed ps p k (omega arith)

pub handle_last : (ps : List Page) (p : Page) → handle_at (ps ++ p ∷ []) (length ps) ≡ p.handle
handle_last [] p = refl
handle_last (q ∷ ps) p = handle_last ps p

pub block_pushed : (ps : List Page) (p : Page) (k : ℕ) → k < length ps → block_at (ps ++ p ∷ []) k ≡ block_at ps k
block_pushed [] p k h = absurd (omega arith)
block_pushed (q ∷ ps) p zero h = refl
block_pushed (q ∷ ps) p (suc k) h = block_pushed ps p k (omega arith)

pub block_last : (ps : List Page) (p : Page) → block_at (ps ++ p ∷ []) (length ps) ≡ p.block
block_last [] p = refl
block_last (q ∷ ps) p = block_last ps p

pub owned_pushed : (ps : List Page) (p : Page) (b : ℕ) → IsOwned ps b → IsOwned (ps ++ p ∷ []) b
owned_pushed ps p b o = (o.0, omega (arith, o.1, length-append ps (p ∷ [])), block_pushed ps p o.0 o.1 ∙ o.2)

-- ---- a page goes

-- the place of the page that goes
pub record IsPlaced (ps : List Page) (block i : ℕ) : Type 0 where
  pub within : i < length ps
  pub is : block_at ps i ≡ block

pub placed : (ps : List Page) (block i : ℕ) → position (is_block block) ps ≡ Some i → IsPlaced ps block i
placed ps block i e =
    let h = position-Some (is_block block) ps i (record { handle = 0; block = 0 }) e in
    record { within = h.0; is = grind (arith, nat_tests, h.1) }

-- where another page stands once it is gone
abbrev pub IsElsewhere : List Page → ℕ → ℕ → Type 0
IsElsewhere ps i k = (j : ℕ) × (j < length ps) × (j ≢ i) × (block_at (remove ps i) k ≡ block_at ps j) ×
    (handle_at (remove ps i) k ≡ handle_at ps j)

pub elsewhere : (ps : List Page) (i k : ℕ) → i < length ps → k < length (remove ps i) → IsElsewhere ps i k
elsewhere ps i k within h =
    let n = length-remove ps i within in
    elim (cases_lt k i) [
      | inl below ↦ let same = get_or-remove_below ps i (record { handle = 0; block = 0 }) k below within in
          (k, omega arith, (λ s. omega (arith, s)), ap (λ (p : Page). p.block) same, ap (λ (p : Page). p.handle) same)
      | inr above ↦ let same = get_or-remove_above ps i (record { handle = 0; block = 0 }) k above within in (
        k + 1,
        omega (arith, n),
        (λ s. omega (arith, s)),
        ap (λ (p : Page). p.block) same,
        ap (λ (p : Page). p.handle) same,
      )
    ]

pub owned_removed : (ps : List Page) (block i : ℕ) → IsPlaced ps block i → (b : ℕ) → b ≢ block → IsOwned ps b →
    IsOwned (remove ps i) b
owned_removed ps block i p b ne o =
    let n = length-remove ps i p.within in
    elim (cases_lt o.0 i) [
      | inl below ↦ (
        o.0,
        omega (arith, n, p.within),
        ap (λ (q : Page). q.block) (get_or-remove_below ps i (record { handle = 0; block = 0 }) o.0 below p.within)
            ∙ o.2,
      )
      | inr above ↦
          let apart : o.0 ≢ i = λ s. ne (sym o.2 ∙ ap (block_at ps) s ∙ p.is) in
          let high : i < o.0 = omega (arith, apart) in
          let back : o.0 - 1 + 1 ≡ o.0 = omega arith in (
            o.0 - 1,
            omega (arith, n, o.1),
            ap (λ (q : Page). q.block) (get_or-remove_above ps i (record {
              handle = 0;
              block = 0;
            }) (o.0 - 1) (omega arith) p.within) ∙ ap (block_at ps) back ∙ o.2,
          )
    ]

-- ---- the pages of a handle

first_block : (P : ℕ → Type 0) (c b : ℕ) (cs : List ℕ) → P c → ((n : ℕ) → slice_get cs n ≡ Some b → P b) → (n : ℕ) →
    slice_get (c ∷ cs) n ≡ Some b → P b
first_block P c b cs p f zero e = let s : c ≡ b = cc in subst P s p
first_block P c b cs p f (suc n) e = f n e

pub each_block : (P : ℕ → Type 0) (ps : List Page) (h n b : ℕ) → ((k : ℕ) → k < length ps → P (block_at ps k)) →
    slice_get (map (λ (p : Page). p.block) (filter (is_of h) ps)) n ≡ Some b → P b
each_block P [] h n b f e = cc
each_block P (p ∷ ps) h n b f e =
    let later : (k : ℕ) → slice_get (map (λ (q : Page). q.block) (filter (is_of h) ps)) k ≡ Some b → P b =
    λ k. each_block P ps h k b (λ i j. f (suc i) (omega arith)) in
    elim (is_of h p) as (λ t. slice_get (map (λ (q : Page). q.block) (cond t (p
    ∷ filter (is_of h) ps) (filter (is_of h) ps))) n ≡ Some b → P b) [
      | true ↦ first_block P p.block b _ (f 0 (omega arith)) later n
      | false ↦ later n
    ] e
