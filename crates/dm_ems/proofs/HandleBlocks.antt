-- The blocks of a handle's pages, as pages come and go.
use Rattle.std.proofs.Common.{◌≡◌, ◌≢◌, ℕ, zero, suc, ◌<◌, ◌≤◌, ◌==◌, Bool, true, false, cond, List, [], ◌∷◌, ◌++◌, Option, Some, None, map, length, get_or, remove, position, drop, take, refl, sym, ◌∙◌, ap, subst, arith, inl, inr}
use Rattle.std.specs.Prelude.{filter, AllPairs, nat_lt, count_by}
use Rattle.std.specs.List.{position_or_len}
use Rattle.std.proofs.lemmas.Bool.Decides.{nat_tests}
use Rattle.std.proofs.lemmas.Bool.{cases_lt, eq-eqb}
use Rattle.std.proofs.lemmas.Option.{none-some}
use Rattle.std.proofs.lemmas.List.{append-nil, length-map, take-append-drop}
use Rattle.std.proofs.lemmas.List.Sums.{fails_before_first, length-filter}
use Rattle.dm_ems.specs.declared.tables.Page.{Page}
use Rattle.dm_ems.specs.Tables.{Tables, Expanded, is_of, is_block, blocks_of, page_count, without_page, forgotten, forgotten_all, cut}
use Rattle.dm_ems.specs.Consistent.{block_at, handle_at, IsOwned, IsConsistent}
use Rattle.dm_ems.specs.inner.Consistent.{HasOtherBlock}
use Rattle.dm_ems.proofs.Owned.{placed}
use Rattle.dm_ems.proofs.Consistent.{consistent_forget}

-- those of the pages of a list
abbrev pub blocks_in : List Page → ℕ → List ℕ
blocks_in ps h = map (λ (p : Page). p.block) (filter (is_of h) ps)

-- ---- a page comes

pushed_in : (ps : List Page) (h i : ℕ) → blocks_in (ps ++ record { handle = h; block = i } ∷ []) h ≡ blocks_in ps h ++ i
    ∷ []
pushed_in [] h i = ap (λ t. map (λ (p : Page). p.block) (cond t (record { handle = h; block = i } ∷ []) []))
    (eq-eqb h h refl)
pushed_in (p ∷ ps) h i =
    elim (is_of h p) as (λ t. map (λ (q : Page). q.block) (cond t (p ∷ filter (is_of h) (ps
    ++ record { handle = h; block = i } ∷ [])) (filter (is_of h) (ps ++ record { handle = h; block = i } ∷ [])))
    ≡ map (λ (q : Page). q.block) (cond t (p ∷ filter (is_of h) ps) (filter (is_of h) ps)) ++ i ∷ []) [
      | true ↦ ap (λ l. p.block ∷ l) (pushed_in ps h i)
      | false ↦ pushed_in ps h i
    ]

pub blocks_pushed : (ems : Tables) (h i : ℕ) → blocks_of (record ems {
  pages = ems.pages ++ record {
    handle = h;
    block = i;
  } ∷ [];
}) h ≡ blocks_of ems h ++ i ∷ []
blocks_pushed ems h i = pushed_in ems.pages h i

pub count_blocks : (ems : Tables) (h : ℕ) → length (blocks_of ems h) ≡ page_count ems h
count_blocks ems h = length-map (filter (is_of h) ems.pages) (λ (p : Page). p.block) ∙ length-filter (is_of h) ems.pages

-- ---- a page goes

owned_behind : (p : Page) (ps : List Page) (b : ℕ) → IsOwned ps b → IsOwned (p ∷ ps) b
owned_behind p ps b o = (suc o.0, omega (arith, o.1), o.2)

-- each of the blocks is a page's
owned_first : (p : Page) (ps : List Page) (l before after : List ℕ) (b : ℕ) → ((before : List ℕ) → l ≡ before ++ b
    ∷ after → IsOwned ps b) → p.block ∷ l ≡ before ++ b ∷ after → IsOwned (p ∷ ps) b
owned_first p ps l [] after b f e = (0, omega arith, cc)
owned_first p ps l (a ∷ before) after b f e = owned_behind p ps b (f before cc)

owned_in : (ps : List Page) (h b : ℕ) (before after : List ℕ) → blocks_in ps h ≡ before ++ b ∷ after → IsOwned ps b
owned_in [] h b [] after e = cc
owned_in [] h b (a ∷ before) after e = cc
owned_in (p ∷ ps) h b before after e =
    elim (is_of h p) as (λ t. map (λ (q : Page). q.block) (cond t (p ∷ filter (is_of h) ps) (filter (is_of h) ps))
    ≡ before ++ b ∷ after → IsOwned (p ∷ ps) b) [
      | true ↦ owned_first p ps (blocks_in ps h) before after b (λ q. owned_in ps h b q after)
      | false ↦ λ f. owned_behind p ps b (owned_in ps h b before after f)
    ] e

-- no page but the first has its block
alone : (p : Page) (ps : List Page) (b : ℕ) → AllPairs HasOtherBlock (p ∷ ps) → p.block ≡ b → IsOwned ps b → ⊥
alone p ps b apart e o = let short = o.1 in apart 0 (suc o.0) (record { handle = 0; block = 0 }) (omega arith)
    (omega (arith, short)) (e ∙ sym o.2)

behind_apart : (p : Page) (ps : List Page) → AllPairs HasOtherBlock (p ∷ ps) → AllPairs HasOtherBlock ps
behind_apart p ps apart i j d lo hi = apart (suc i) (suc j) d (omega (arith, lo)) (omega (arith, hi))

first_gone : (ps : List Page) (h b : ℕ) (l before after : List ℕ) → ((before : List ℕ) → l ≡ before ++ b ∷ after → ⊥) →
    b ∷ l ≡ before ++ b ∷ after → l ≡ before ++ after
first_gone ps h b l [] after f e = cc
first_gone ps h b l (a ∷ before) after f e = absurd (f before cc)

other_stays : (c b : ℕ) (l m before after : List ℕ) → c ≢ b → ((before : List ℕ) → l ≡ before ++ b ∷ after → m ≡ before
    ++ after) → c ∷ l ≡ before ++ b ∷ after → c ∷ m ≡ before ++ after
other_stays c b l m [] after ne f e = let same : c ≡ b = cc in absurd (ne same)
other_stays c b l m (a ∷ before) after ne f e = let rest : l ≡ before ++ b ∷ after = cc in let same : c ≡ a =
    cc in ap (λ k. c ∷ k) (f before rest) ∙ ap (λ k. k ∷ before ++ after) same

removed_in : (ps : List Page) (h b i : ℕ) (before after : List ℕ) → AllPairs HasOtherBlock ps → i < length ps →
    block_at ps i ≡ b → blocks_in ps h ≡ before ++ b ∷ after → blocks_in (remove ps i) h ≡ before ++ after
removed_in [] h b i before after apart lt is e = absurd (omega (arith, lt))
removed_in (p ∷ ps) h b zero before after apart lt is e =
    let none : (before : List ℕ) → blocks_in ps h ≡ before ++ b ∷ after → ⊥ =
    λ q f. alone p ps b apart is (owned_in ps h b q after f) in
    elim (is_of h p) as (λ t. map (λ (q : Page). q.block) (cond t (p ∷ filter (is_of h) ps) (filter (is_of h) ps))
    ≡ before ++ b ∷ after → blocks_in ps h ≡ before ++ after) [
      | true ↦ λ f. first_gone ps h b (blocks_in ps h) before after none (ap (λ k. k ∷ blocks_in ps h) (sym is) ∙ f)
      | false ↦ λ f. absurd (none before f)
    ] e
removed_in (p ∷ ps) h b (suc i) before after apart lt is e =
    let short : i < length ps = omega (arith, lt) in
    let rest : (before : List ℕ) → blocks_in ps h ≡ before ++ b ∷ after → blocks_in (remove ps i) h ≡ before ++ after =
    λ q. removed_in ps h b i q after (behind_apart p ps apart) short is in
    let ne : p.block ≢ b = λ s. alone p ps b apart s (i, short, is) in
    elim (is_of h p) as (λ t. map (λ (q : Page). q.block) (cond t (p ∷ filter (is_of h) ps) (filter (is_of h) ps))
    ≡ before ++ b ∷ after
    → map (λ (q : Page). q.block) (cond t (p ∷ filter (is_of h) (remove ps i)) (filter (is_of h) (remove ps i)))
    ≡ before ++ after) [
      | true ↦ other_stays p.block b (blocks_in ps h) (blocks_in (remove ps i) h) before after ne rest
      | false ↦ rest before
    ] e

past_end : (n m : ℕ) (t : Bool) → nat_lt n m ≡ t → cond t (Some n) None ≡ None → m ≤ n
past_end n m true e f = absurd (none-some n (sym f))
past_end n m false e f = grind (arith, nat_tests, e)

-- a page's block has a place
not_placed : (ps : List Page) (b : ℕ) → position (is_block b) ps ≡ None → IsOwned ps b → ⊥
not_placed ps b e o =
    let far = past_end (position_or_len (is_block b) ps) (length ps) (nat_lt (position_or_len (is_block b) ps)
    (length ps)) refl e in
    let fails = fails_before_first (is_block b) ps o.0 (record { handle = 0; block = 0 }) (omega (arith, far, o.1)) in
    let here = eq-eqb (block_at ps o.0) b o.2 in
    cc

went_blocks : (x : Expanded) (h b : ℕ) (before after : List ℕ) (o : Option ℕ) → position (is_block b) x.ems.pages ≡ o →
    IsConsistent x → blocks_of x.ems h ≡ before ++ b ∷ after → blocks_of (without_page x b o).ems h ≡ before ++ after
went_blocks x h b before after None f l e =
    absurd (not_placed x.ems.pages b f (owned_in x.ems.pages h b before after e))
went_blocks x h b before after (Some i) f l e = let p = placed x.ems.pages b i f in
    removed_in x.ems.pages h b i before after l.apart p.within p.is e

forget_blocks : (x : Expanded) (h b : ℕ) (before after : List ℕ) → IsConsistent x → blocks_of x.ems h ≡ before ++ b
    ∷ after → blocks_of (forgotten x b).ems h ≡ before ++ after
unfolding forgotten
forget_blocks x h b before after l e = went_blocks x h b before after (position (is_block b) x.ems.pages) refl l e

forgotten_blocks : (x : Expanded) (h : ℕ) (before after : List ℕ) → IsConsistent x → blocks_of x.ems h ≡ before
    ++ after → blocks_of (forgotten_all x after).ems h ≡ before
forgotten_blocks x h before [] l e = e ∙ append-nil before
forgotten_blocks x h before (b ∷ after) l e = forgotten_blocks (forgotten x b) h before after (consistent_forget x b l)
    (forget_blocks x h b before after l e)

-- a handle whose last pages went has its first ones
pub cut_blocks : (x : Expanded) (h n : ℕ) → IsConsistent x → blocks_of (cut x h n).ems h ≡ take n (blocks_of x.ems h)
unfolding cut
cut_blocks x h n l = let bs = blocks_of x.ems h in forgotten_blocks x h (take n bs) (drop n bs) l
    (sym (take-append-drop n bs))

-- ---- no page

is_there : (ps : List Page) (h k : ℕ) → k < length ps → handle_at ps k ≡ h → blocks_in ps h ≡ [] → ⊥
is_there [] h k lt e none = omega (arith, lt)
is_there (p ∷ ps) h zero lt e none =
    let here : is_of h p ≡ true = eq-eqb p.handle h e in
    let some : blocks_in (p ∷ ps) h ≡ p.block ∷ blocks_in ps h =
    ap (λ t. map (λ (q : Page). q.block) (cond t (p ∷ filter (is_of h) ps) (filter (is_of h) ps))) here in
    cc
is_there (p ∷ ps) h (suc k) lt e none =
    elim (is_of h p) as (λ t. map (λ (q : Page). q.block) (cond t (p ∷ filter (is_of h) ps) (filter (is_of h) ps))
    ≡ [] → ⊥) [
      | true ↦ λ f. cc
      | false ↦ is_there ps h k (omega (arith, lt)) e
    ] none

-- a handle that is cut to nothing has no page
pub none_left : (x : Expanded) (h k : ℕ) → IsConsistent x → k < length (cut x h 0).ems.pages →
    handle_at (cut x h 0).ems.pages k ≡ h → ⊥
none_left x h k l lt e = is_there (cut x h 0).ems.pages h k lt e (cut_blocks x h 0 l)

pub none_in : (ps : List Page) (h : ℕ) → ((k : ℕ) → k < length ps → handle_at ps k ≢ h) → blocks_in ps h ≡ []
none_in [] h f = refl
none_in (p ∷ ps) h f = elim (is_of h p) as (λ t. is_of h p ≡ t →
    map (λ (q : Page). q.block) (cond t (p ∷ filter (is_of h) ps) (filter (is_of h) ps)) ≡ []) [
      | true ↦ λ e. absurd (f 0 (omega arith) (grind (arith, nat_tests, e)))
      | false ↦ λ e. none_in ps h (λ k lt. f (suc k) (omega (arith, lt)))
    ] refl
