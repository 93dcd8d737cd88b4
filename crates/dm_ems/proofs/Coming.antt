-- Pages that are promised come.
use Rattle.std.proofs.Common.{◌≡◌, ◌≢◌, ℕ, zero, suc, ◌+◌, ◌-◌, ◌<◌, ◌≤◌, ◌==◌, Bool, true, false, cond, List, [], ◌∷◌, ◌++◌, Option, Some, None, length, get_or, take, refl, sym, ◌∙◌, ap, subst, arith, length-append}
use Rattle.std.specs.Prelude.{Result, Ok, Err, All, nat_lt, min, is_some, is_none, position, count_by}
use Rattle.std.proofs.lemmas.Bool.Decides.{nat_tests}
use Rattle.std.proofs.lemmas.Option.{none-some}
use Rattle.std.proofs.lemmas.List.{append_assoc, append-nil}
use Rattle.std.proofs.lemmas.List.Quantifiers.{position-Some}
use Rattle.std.proofs.lemmas.List.Sums.{sum_by-cons}
use Rattle.dm_pool.specs.declared.extent.Extent.{Extent}
use Rattle.dm_pool.specs.Blocks.{Blocks, IsLive, taken}
use Rattle.dm_pool.specs.Gaps.{gaps, count_fitting}
use Rattle.dm_pool.specs.Laws.{free_numbers}
use Rattle.dm_pool.proofs.Coming.{comes, taken_leaves}
use Rattle.dm_ems.specs.declared.status.Status.{Status}
use Rattle.dm_ems.specs.declared.status.Status.TheVariants.{NoPages, NoHandleLeft, OverTotal, OverFree}
use Rattle.dm_ems.specs.declared.tables.Handle.{Handle}
use Rattle.dm_ems.specs.Tables.{Expanded, blank, with_page, appended_page, appended, blocks_of, unallocated}
use Rattle.dm_ems.specs.Consistent.{IsUsed, IsConsistent}
use Rattle.dm_ems.specs.inner.Consistent.{HasNumbers}
use Rattle.dm_ems.specs.Calls.{need, with_slot}
use Rattle.dm_ems.specs.Handles.{allocate}
use Rattle.dm_ems.specs.Coming.{IsNewPage, HasPages}
use Rattle.dm_ems.specs.inner.Laws.{PagesCome}
use Rattle.dm_ems.proofs.Consistent.{consistent_append, appended_handles, appended_room}
use Rattle.dm_ems.proofs.NewBlock.{taken_new}
use Rattle.dm_ems.proofs.HandleBlocks.{blocks_pushed, count_blocks, none_in}
use Rattle.dm_ems.proofs.Keeping.{opened, opened_used, has_room}

-- ---- pages behind those of a handle

abbrev pub fitting : Expanded → ℕ
fitting x = count_fitting 16 (gaps x.memory.blocks.places x.memory.blocks.units)

-- n pages came, each on a new block of zeros
pub record Grows (x y : Expanded) (h n : ℕ) : Type 0 where
  pub new : List ℕ
  pub count : length new ≡ n
  pub blocks : blocks_of y.ems h ≡ blocks_of x.ems h ++ new
  pub zeros : All (IsNewPage x y) new
  pub still : (b : ℕ) → IsLive x.memory.blocks b → IsLive y.memory.blocks b
  pub consistency : IsConsistent y
  pub numbers : free_numbers y.memory.blocks + n ≡ free_numbers x.memory.blocks
  pub left : fitting y + n ≡ fitting x

each_pushed : (P : ℕ → Type 0) (bs : List ℕ) (b : ℕ) → All P bs → P b → All P (bs ++ b ∷ [])
each_pushed P [] b h p zero d lt = p
each_pushed P [] b h p (suc k) d lt = absurd (omega (arith, lt))
each_pushed P (c ∷ bs) b h p zero d lt = h zero d (omega arith)
each_pushed P (c ∷ bs) b h p (suc k) d lt = each_pushed P bs b (λ j e s. h (suc j) e (omega (arith, s))) p k d
    (omega (arith, lt))

-- one more
grows_one : (x y z : Expanded) (h n i : ℕ) (t : Blocks) → Grows x y h n → IsUsed y.ems.handles h →
    taken y.memory.blocks 16 ≡ Some (i, t) → z ≡ with_page y h (Some (i, t)) → IsConsistent z → Grows x z h (suc n)
grows_one x y z h n i t g u e is consistency =
    let new = taken_new y.memory.blocks 16 i t e in
    let less = taken_leaves y.memory.blocks 16 i t g.consistency.based (omega arith) e in
    let numbers = g.numbers in let left = g.left in let fewer = less.numbers in let fit = less.fitting in
    let blocks = ap (λ (w : Expanded). w.memory.blocks) is in
    let not_new : (b : ℕ) → IsLive y.memory.blocks b → b ≢ i =
    λ b live s. none-some live.1.0 (sym (ap (λ k. get_or y.memory.blocks.places k None) s ∙ new.free) ∙ live.1.1) in
    let short : i < 576 = omega (arith, new.within, g.consistency.places) in
    let still : (b : ℕ) → IsLive y.memory.blocks b → IsLive z.memory.blocks b
    = λ b live. subst (λ (s : Blocks). IsLive s b) (sym blocks) (
      live.0,
      (live.1.0, new.others b (not_new b live) ∙ live.1.1),
    ) in
    let old : (b : ℕ) → IsNewPage x y b → IsNewPage x z b = λ b p. record {
      before = p.before;
      live = still b p.live;
      bytes = ap (λ (s : Blocks). get_or s.contents b []) blocks ∙ new.kept b (not_new b p.live) ∙ p.bytes;
    } in
    let last : IsNewPage x z i = record {
      before = λ live. not_new i (g.still i live) refl;
      live = subst (λ (s : Blocks). IsLive s i) (sym blocks) (short, (new.place, new.at));
      bytes = ap (λ (s : Blocks). get_or s.contents i []) blocks ∙ new.bytes (omega (
        arith,
        short,
        g.consistency.contents,
      ));
    } in
    record {
      new = g.new ++ i ∷ [];
      count = omega (arith, length-append g.new (i ∷ []), g.count);
      blocks = ap (λ (w : Expanded). blocks_of w.ems h) is ∙ blocks_pushed y.ems h i ∙ ap (λ l. l ++ i ∷ []) g.blocks
          ∙ append_assoc (blocks_of x.ems h) g.new (i ∷ []);
      zeros = each_pushed (IsNewPage x z) g.new i (λ k d lt. old (get_or g.new k d) (g.zeros k d lt)) last;
      still = λ b live. still b (g.still b live);
      consistency = consistency;
      numbers = ap (λ (s : Blocks). free_numbers s + suc n) blocks
          ∙ (let sum : free_numbers t + suc n ≡ free_numbers x.memory.blocks = omega (arith, fewer, numbers) in sum);
      left = ap (λ (s : Blocks). count_fitting 16 (gaps s.places s.units) + suc n) blocks
          ∙ (let sum : count_fitting 16 (gaps t.places t.units) + suc n ≡ fitting x = omega (arith, fit, left) in sum);
    }

page_came : (y : Expanded) (h : ℕ) (p : ℕ × Blocks) → taken y.memory.blocks 16 ≡ Some p →
    appended_page y h ≡ with_page y h (Some p)
unfolding appended_page
page_came y h p e = ap (with_page y h) e

pub grows : (x : Expanded) (h n : ℕ) → IsConsistent x → IsUsed x.ems.handles h → n ≤ free_numbers x.memory.blocks →
    n ≤ fitting x → length x.ems.pages + n ≤ x.ems.total → Grows x (appended x h n) h n
grows x h zero l u more fits room = record {
  new = [];
  count = refl;
  blocks = sym (append-nil (blocks_of x.ems h));
  zeros = λ k d lt. absurd (omega (arith, lt));
  still = λ b live. live;
  consistency = l;
  numbers = omega arith;
  left = omega arith;
}
grows x h (suc n) l u more fits room =
    let y = appended x h n in
    let g = grows x h n l u (omega (arith, more)) (omega (arith, fits)) (omega (arith, room)) in
    let numbers = g.numbers in let left = g.left in
    let new = comes y.memory.blocks 16 g.consistency.based (omega arith) (omega (arith, numbers, more)) (omega (
      arith,
      left,
      fits,
    )) in
    let used = subst (λ (hs : List (Option Handle)). IsUsed hs h) (sym (appended_handles x h n)) u in
    grows_one x y (appended_page y h) h n new.0.0 new.0.1 g used new.1 (page_came y h new.0 new.1)
    (consistent_append y h used (appended_room x h n room) g.consistency)

-- ---- numbers

free_or_not : (ps : List (Option Extent)) → count_by is_none ps + count_by is_some ps ≡ length ps
free_or_not [] = refl
free_or_not (p ∷ ps) =
    let a = sum_by-cons (λ (o : Option Extent). cond (is_none o) 1 0) p ps in
    let b = sum_by-cons (λ (o : Option Extent). cond (is_some o) 1 0) p ps in
    let rest = free_or_not ps in
    elim p as (λ o. count_by is_none (o ∷ ps) ≡ cond (is_none o) 1 0 + count_by is_none ps →
    count_by is_some (o ∷ ps) ≡ cond (is_some o) 1 0 + count_by is_some ps →
    count_by is_none (o ∷ ps) + count_by is_some (o ∷ ps) ≡ suc (length ps)) [
      | None ↦ λ c d. omega (arith, c, d, rest)
      | Some q ↦ λ c d. omega (arith, c, d, rest)
    ] a b

not_less : (a b : ℕ) → nat_lt a b ≡ false → b ≤ a
not_less a b e = grind (arith, nat_tests, e)

-- so many pages may come: there is a number for each, and a place
pub may_come : (x : Expanded) (n : ℕ) → IsConsistent x → HasNumbers x → nat_lt (unallocated x) n ≡ false →
    (n ≤ free_numbers x.memory.blocks) × (n ≤ fitting x) × (length x.ems.pages + n ≤ x.ems.total)
may_come x n l few e =
    let le : n ≤ min (fitting x) (x.ems.total - length x.ems.pages) = not_less (unallocated x) n e in
    let sum = free_or_not x.memory.blocks.places in
    let all = l.places in let total = l.total in
    (omega (arith, le, sum, all, total, few), omega (arith, le), has_room x n l e)

-- ---- a new handle

-- a new handle had no page
pub unused : (x : Expanded) (h : ℕ) → IsConsistent x → position is_none x.ems.handles ≡ Some h → blocks_of x.ems h ≡ []
unused x h l e =
    let at = position-Some is_none x.ems.handles h None e in
    none_in x.ems.pages h (λ k lt s. both (get_or x.ems.handles h None) at.1 (subst (IsUsed x.ems.handles) s
    (l.used k lt)))
  where
    both : (o : Option Handle) → is_none o ≡ true → is_some o ≡ true → ⊥
    both None e f = cc
    both (Some s) e f = cc

-- what a new handle has
abbrev Has : Expanded → ℕ → Result (ℕ × Expanded) Status → Type 0
Has x n r = (y : Expanded) (h : ℕ) → r ≡ Ok (h, y) → HasPages x y h n

none_had : (x : Expanded) (n : ℕ) (e : Status) → Has x n (Err e)
none_had x n e y h f = cc

if_has : (x : Expanded) (n : ℕ) (b : Bool) (r s : Result (ℕ × Expanded) Status) → Has x n r → (b ≡ false → Has x n s) →
    Has x n (cond b r s)
if_has x n true r s p q = p
if_has x n false r s p q = q refl

need_has : (x : Expanded) (n : ℕ) (o : Option ℕ) (e : Status) (f : ℕ → Result (ℕ × Expanded) Status) →
    ((v : ℕ) → o ≡ Some v → Has x n (f v)) → Has x n (need o e f)
need_has x n None e f h = none_had x n e
need_has x n (Some v) e f h = h v refl

take_none : (n : ℕ) → take {A = ℕ} n [] ≡ []
take_none zero = refl
take_none (suc n) = refl

given : (x : Expanded) (n h : ℕ) → IsConsistent x → HasNumbers x → position is_none x.ems.handles ≡ Some h →
    nat_lt (unallocated x) n ≡ false → HasPages x (appended (with_slot x h (Some blank)) h n) h n
given x n h l few e f =
    let z = with_slot x h (Some blank) in
    let may = may_come x n l few f in
    let g = grows z h n (opened x h l) (opened_used x h e) may.0 may.1 may.2 in
    let y = appended z h n in
    let none = unused x h l e in
    let all : blocks_of y.ems h ≡ g.new = g.blocks ∙ ap (λ l. l ++ g.new) none in
    record {
      count = sym (count_blocks y.ems h) ∙ ap length all ∙ g.count;
      new = g.new;
      blocks = all ∙ ap (λ l. l ++ g.new) (sym (ap (take n) none ∙ take_none n));
      zeros = λ k d lt. let p = g.zeros k d lt in record { before = p.before; live = p.live; bytes = p.bytes };
      consistency = g.consistency;
    }

-- what was answered is what was made
is_given : (x y z : Expanded) (n h k : ℕ) → HasPages x y h n → (let r : Result (ℕ × Expanded) Status = Ok (h, y) in
    r ≡ Ok (k, z)) → HasPages x z k n
is_given x y z n h k p e = let same : (h, y) ≡ (k, z) = cc in subst (λ (w : ℕ × Expanded). HasPages x w.1 w.0 n) same p

pub pages_come : PagesCome
unfolding allocate
pages_come x y n h l few =
    if_has x n (n == 0) (Err NoPages) _ (none_had x n NoPages)
    (λ _. need_has x n (position is_none x.ems.handles) NoHandleLeft _ (λ k e.
    if_has x n (nat_lt x.ems.total n) (Err OverTotal) _ (none_had x n OverTotal)
    (λ _. if_has x n (nat_lt (unallocated x) n) (Err OverFree) (Ok (k, appended (with_slot x k (Some blank)) k n))
    (none_had x n OverFree)
    (λ f z j. is_given x (appended (with_slot x k (Some blank)) k n) z n k j (given x n k l few e f))))) y h
