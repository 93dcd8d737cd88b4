-- Pages that are promised come.
use Rattle.std.proofs.Common.{◌≡◌, ℕ, zero, suc, ◌+◌, ◌-◌, ◌<◌, ◌≤◌, Bool, true, false, cond, List, [], ◌∷◌, ◌++◌, Option, Some, None, length, take, refl, sym, ◌∙◌, ap, subst, arith, length-append}
use Rattle.std.specs.Prelude.{Result, Ok, Err, nat_lt, is_some}
use Rattle.std.proofs.lemmas.Bool.Decides.{nat_tests}
use Rattle.std.proofs.lemmas.List.{append-nil, length-take-le}
use Rattle.dm_ems.specs.declared.status.Status.{Status}
use Rattle.dm_ems.specs.declared.status.Status.TheVariants.{UnknownHandle, OverTotal, OverFree}
use Rattle.dm_ems.specs.declared.tables.Handle.{Handle}
use Rattle.dm_ems.specs.Tables.{Expanded, page_count, blocks_of, unallocated, appended, cut}
use Rattle.dm_ems.specs.Consistent.{IsUsed, IsConsistent}
use Rattle.dm_ems.specs.inner.Consistent.{HasNumbers}
use Rattle.dm_ems.specs.Calls.{need, slot}
use Rattle.dm_ems.specs.Coming.{HasPages}
use Rattle.dm_ems.proofs.Consistent.{consistent_cut}
use Rattle.dm_ems.proofs.HandleBlocks.{cut_blocks, count_blocks}
use Rattle.dm_ems.proofs.Coming.{grows, may_come}
use Rattle.dm_ems_move.specs.declared.reallocation.Reallocated.{Reallocated}
use Rattle.dm_ems_move.specs.Reallocation.{reallocate, reallocated, with_count}
use Rattle.dm_ems_move.specs.inner.Laws.{PagesCome}

less : (a b : ℕ) → nat_lt a b ≡ true → a < b
less a b e = grind (arith, nat_tests, e)

not_less : (a b : ℕ) → nat_lt a b ≡ false → b ≤ a
not_less a b e = grind (arith, nat_tests, e)

take_beyond : (n : ℕ) (bs : List ℕ) → length bs ≤ n → take n bs ≡ bs
take_beyond zero [] le = refl
take_beyond (suc n) [] le = refl
take_beyond zero (b ∷ bs) le = absurd (omega (arith, le))
take_beyond (suc n) (b ∷ bs) le = ap (λ l. b ∷ l) (take_beyond n bs (omega (arith, le)))

-- the last pages went
fewer : (x : Expanded) (h n : ℕ) → IsConsistent x → n < page_count x.ems h → HasPages x (cut x h n) h n
fewer x h n l lt =
    let bs = blocks_of x.ems h in
    let is = cut_blocks x h n l in
    let long : n ≤ length bs = omega (arith, lt, count_blocks x.ems h) in
    record {
      count = sym (count_blocks (cut x h n).ems h) ∙ ap length is ∙ length-take-le n bs long;
      new = [];
      blocks = is ∙ sym (append-nil (take n bs));
      zeros = λ k d no. absurd (omega (arith, no));
      consistency = consistent_cut x h n l;
    }

-- pages came behind those that there were
more : (x : Expanded) (h n : ℕ) → IsConsistent x → HasNumbers x → IsUsed x.ems.handles h → page_count x.ems h ≤ n →
    nat_lt (unallocated x) (n - page_count x.ems h) ≡ false
    → HasPages x (appended x h (n - page_count x.ems h)) h n
more x h n l few u le e =
    let m = n - page_count x.ems h in
    let bs = blocks_of x.ems h in
    let may = may_come x m l few e in
    let g = grows x h m l u may.0 may.1 may.2 in
    let long = count_blocks x.ems h in
    let sum : length (bs ++ g.new) ≡ n = omega (arith, length-append bs g.new, g.count, long, le) in
    record {
      count = sym (count_blocks (appended x h m).ems h) ∙ ap length g.blocks ∙ sum;
      new = g.new;
      blocks = g.blocks ∙ ap (λ l. l ++ g.new) (sym (take_beyond n bs (omega (arith, long, le))));
      zeros = g.zeros;
      consistency = g.consistency;
    }

counted : (x : Expanded) (h n : ℕ) (b : Bool) → nat_lt n (page_count x.ems h) ≡ b → IsConsistent x → HasNumbers x →
    IsUsed x.ems.handles h → nat_lt (unallocated x) (n - page_count x.ems h) ≡ false
    → HasPages x (cond b (cut x h n) (appended x h (n - page_count x.ems h))) h n
counted x h n true e l few u f = fewer x h n l (less n (page_count x.ems h) e)
counted x h n false e l few u f = more x h n l few u (not_less n (page_count x.ems h) e) f

-- what a handle has
abbrev Has : Expanded → ℕ → ℕ → Result (Reallocated × Expanded) Status → Type 0
Has x h n s = (y : Expanded) (r : Reallocated) → s ≡ Ok (r, y) → r.refused ≡ None → HasPages x y h n

if_has : (x : Expanded) (h n : ℕ) (b : Bool) (r s : Result (Reallocated × Expanded) Status) → Has x h n r →
    (b ≡ false → Has x h n s) → Has x h n (cond b r s)
if_has x h n true r s p q = p
if_has x h n false r s p q = q refl

err_has : (x : Expanded) (h n : ℕ) (e : Status) → Has x h n (Err e)
err_has x h n e y r is none = cc

need_has : (x : Expanded) (h n : ℕ) (o : Option Handle) (e : Status) (f : Handle →
    Result (Reallocated × Expanded) Status) → ((v : Handle) → o ≡ Some v → Has x h n (f v)) → Has x h n (need o e f)
need_has x h n None e f p = err_has x h n e
need_has x h n (Some v) e f p = p v refl

refused_has : (x : Expanded) (h n count : ℕ) (e : Status) → Has x h n (Ok (reallocated count (Some e), x))
refused_has x h n count e y r is none =
    let same : (reallocated count (Some e), x) ≡ (r, y) = cc in
    let some : r.refused ≡ Some e = ap (λ (w : Reallocated × Expanded). w.0.refused) (sym same) in
    cc

made_has : (x z : Expanded) (h n : ℕ) → HasPages x z h n → Has x h n (Ok (reallocated n None, z))
made_has x z h n p y r is none = let same : (reallocated n None, z) ≡ (r, y) =
    cc in subst (λ (w : Reallocated × Expanded). HasPages x w.1 h n) same p

pub pages_come : PagesCome
unfolding reallocate
pages_come x y h n r l few =
    need_has x h n (slot x h) UnknownHandle _
    (λ s e. if_has x h n (nat_lt x.ems.total n) (Ok (
      reallocated (page_count x.ems h) (Some OverTotal),
      x,
    )) _ (refused_has x h n (page_count x.ems h) OverTotal)
    (λ _. if_has x h n (nat_lt (unallocated x) (n - page_count x.ems h))
    (Ok (reallocated (page_count x.ems h) (Some OverFree), x)) (Ok (reallocated n None, with_count x h n))
    (refused_has x h n (page_count x.ems h) OverFree)
    (λ f. made_has x (with_count x h n) h n (counted x h n (nat_lt n (page_count x.ems h)) refl l few
    (ap is_some e) f)))) y r
