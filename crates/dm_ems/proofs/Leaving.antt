-- Calls leave what is outside of expanded memory.
use Rattle.std.proofs.Common.{◌≡◌, ◌≢◌, ℕ, zero, suc, Bool, true, false, cond, List, [], ◌∷◌, ◌++◌, Option, Some, None, length, set, position, drop, get_or, refl, sym, ◌∙◌, ap, arith, inl, inr, length-append}
use Rattle.std.specs.Prelude.{Result, Ok, Err, ◌==◌, nat_lt, nat_le, is_some, is_none, slice_get}
use Rattle.std.proofs.lemmas.Bool.{cases_lt}
use Rattle.std.proofs.lemmas.List.{get_or-set_other}
use Rattle.std.proofs.lemmas.Option.{none-some}
use Rattle.dm_pool.specs.declared.extent.Extent.{Extent}
use Rattle.dm_pool.specs.Blocks.{Blocks, IsLive, taken}
use Rattle.dm_space.specs.Memory.{Memory}
use Rattle.dm_space.specs.Places.{IsShaped}
use Rattle.dm_space.specs.EightBytes.{eight_after}
use Rattle.dm_ems.specs.declared.status.Status.{Status}
use Rattle.dm_ems.specs.declared.status.Status.TheVariants.{NoPages, NoHandleLeft, OverTotal, OverFree, UnknownHandle, ContextSaved, NoSuchWindow, NoSuchPage, SavedAlready, NoneSaved, NameTaken}
use Rattle.dm_ems.specs.declared.tables.Handle.{Handle}
use Rattle.dm_ems.specs.declared.tables.Page.{Page}
use Rattle.dm_ems.specs.Tables.{Expanded, blank, appended, appended_page, with_page, cut, forgotten, forgotten_all, without_page, is_block, unallocated, blocks_of, with_windows}
use Rattle.dm_ems.specs.Consistent.{block_at, IsOwned}
use Rattle.dm_ems.specs.inner.Outside.{LeavesOutside}
use Rattle.dm_ems.specs.Calls.{state_after, need, slot, with_slot, with_memory}
use Rattle.dm_ems.specs.Handles.{allocate, deallocate}
use Rattle.dm_ems.specs.Maps.{map_page, save_map, restore_map, showing}
use Rattle.dm_ems.specs.Names.{set_name, is_name_of_other}
use Rattle.dm_ems.specs.inner.Laws.{CallsLeaveOutside}
use Rattle.dm_ems.proofs.Owned.{placed, IsPlaced, elsewhere, owned_pushed, owned_removed, block_pushed, block_last}
use Rattle.dm_ems.proofs.NewBlock.{IsNew, taken_new}

pub leaves_all : (x : Expanded) → LeavesOutside x x
leaves_all x = record { blocks = λ b n o. o; others = λ b live none. (live, none); line = refl }

pub leaves_then : (x y z : Expanded) → LeavesOutside x y → LeavesOutside y z → LeavesOutside x z
leaves_then x y z f g = record {
  blocks = λ b n o. g.blocks b n (f.blocks b n o);
  others = λ b live none. let o = g.others b live none in f.others b o.0 o.1;
  line = g.line ∙ f.line;
}

-- other handles, and other windows
pub leaves_handles : (x : Expanded) (handles : List (Option Handle)) →
    LeavesOutside x (record x { ems = record x.ems { handles = handles } })
leaves_handles x handles = record {
  blocks = λ b n o. record { live = o.live; size = o.size; apart = o.apart };
  others = λ b live none. (live, none);
  line = refl;
}

pub leaves_windows : (x : Expanded) (windows : List (Option ℕ)) →
    LeavesOutside x (with_memory x (with_windows x.memory windows))
leaves_windows x windows = record {
  blocks = λ b n o. record { live = o.live; size = o.size; apart = o.apart };
  others = λ b live none. (live, none);
  line = refl;
}

-- a memory of the same map
pub leaves_shaped : (x : Expanded) (m : Memory) → IsShaped x.memory m → LeavesOutside x (with_memory x m)
leaves_shaped x m s = record {
  blocks = λ b n o. record {
    live = (o.live.0, (o.live.1.0, ap (λ (xs : List (Option Extent)). get_or xs b None) s.places ∙ o.live.1.1));
    size = s.page_sizes b ∙ o.size;
    apart = o.apart;
  };
  others = λ b live none. (
    (
      live.0,
      (
        live.1.0,
        ap (λ (xs : List (Option Extent)). get_or xs b None) (sym s.places)
            ∙ live.1.1,
      ),
    ),
    none,
  );
  line = s.a20;
}

-- ---- a page comes

-- a block that is there is not the new one
not_new : (s t : Blocks) (i block : ℕ) → IsNew s 16 i t → IsLive s block → block ≢ i
not_new s t i block n l e = none-some l.1.0 (sym (ap (λ (j : ℕ). get_or s.places j None) e ∙ n.free) ∙ l.1.1)

not_pushed : (ps : List Page) (p : Page) (block : ℕ) → block ≢ p.block → (IsOwned ps block → ⊥) →
    IsOwned (ps ++ p ∷ []) block → ⊥
not_pushed ps p block ne apart o =
    elim (cases_lt o.0 (length ps)) [
      | inl low ↦ apart (o.0, low, sym (block_pushed ps p o.0 low) ∙ o.2)
      | inr high ↦
          let within = o.1 in
          let last : o.0 ≡ length ps = omega (arith, within, high, length-append ps (p ∷ [])) in
          ne (sym o.2 ∙ (ap (block_at (ps ++ p ∷ [])) last ∙ block_last ps p))
    ]

pushed_leaves : (x : Expanded) (h i : ℕ) (t : Blocks) → IsNew x.memory.blocks 16 i t →
    LeavesOutside x (with_page x h (Some (i, t)))
pushed_leaves x h i t n = record {
  blocks = λ b size o.
      let ne = not_new x.memory.blocks t i b n o.live in
      record {
        live = (o.live.0, (o.live.1.0, n.others b ne ∙ o.live.1.1));
        size = ap length (n.kept b ne) ∙ o.size;
        apart = not_pushed x.ems.pages (record { handle = h; block = i }) b ne o.apart;
      };
  others = λ b live none.
      let p : Page = record { handle = h; block = i } in
      let ne : b ≢ i = λ e. none (
        length x.ems.pages,
        omega (arith, length-append x.ems.pages (p ∷ [])),
        block_last x.ems.pages p ∙ sym e,
      ) in
      ((live.0, (live.1.0, sym (n.others b ne) ∙ live.1.1)), λ o. none (owned_pushed x.ems.pages p b o));
  line = refl;
}

came_leaves : (x : Expanded) (h : ℕ) (o : Option (ℕ × Blocks)) → taken x.memory.blocks 16 ≡ o →
    LeavesOutside x (with_page x h o)
came_leaves x h None e = leaves_all x
came_leaves x h (Some p) e = pushed_leaves x h p.0 p.1 (taken_new x.memory.blocks 16 p.0 p.1 e)

append_leaves : (x : Expanded) (h : ℕ) → LeavesOutside x (appended_page x h)
unfolding appended_page
append_leaves x h = came_leaves x h (taken x.memory.blocks 16) refl

pub appended_leaves : (x : Expanded) (h n : ℕ) → LeavesOutside x (appended x h n)
appended_leaves x h zero = leaves_all x
appended_leaves x h (suc n) = leaves_then x (appended x h n) (appended_page (appended x h n) h) (appended_leaves x h n)
    (append_leaves (appended x h n) h)

-- ---- a page goes

gone : (ps : List (Option Extent)) (k : ℕ) → get_or (set ps k None) k None ≡ None
gone [] k = refl
gone (p ∷ ps) zero = refl
gone (p ∷ ps) (suc k) = gone ps k

removed_leaves : (x : Expanded) (block i : ℕ) → IsPlaced x.ems.pages block i →
    LeavesOutside x (without_page x block (Some i))
removed_leaves x block i p = record {
  blocks = λ b size o.
      let ne : b ≢ block = λ e. o.apart (i, p.within, p.is ∙ sym e) in
      record {
        live = (o.live.0, (o.live.1.0, get_or-set_other x.memory.blocks.places block b None None ne ∙ o.live.1.1));
        size = ap length (get_or-set_other x.memory.blocks.contents block b [] [] ne) ∙ o.size;
        apart = λ owned. let there = elsewhere x.ems.pages i owned.0 p.within owned.1 in
            o.apart (there.0, there.1, sym there.3 ∙ owned.2);
      };
  others = λ b live none.
      let ne : b ≢ block = λ e. none-some live.1.0 (sym (ap (λ k. get_or (set x.memory.blocks.places block None) k None)
      e ∙ gone x.memory.blocks.places block) ∙ live.1.1) in (
        (live.0, (live.1.0, sym (get_or-set_other x.memory.blocks.places block b None None ne) ∙ live.1.1)),
        λ o. none (owned_removed x.ems.pages block i p b ne o),
      );
  line = refl;
}

went_leaves : (x : Expanded) (block : ℕ) (o : Option ℕ) → position (is_block block) x.ems.pages ≡ o →
    LeavesOutside x (without_page x block o)
went_leaves x block None e = leaves_all x
went_leaves x block (Some i) e = removed_leaves x block i (placed x.ems.pages block i e)

forget_leaves : (x : Expanded) (block : ℕ) → LeavesOutside x (forgotten x block)
unfolding forgotten
forget_leaves x block = went_leaves x block (position (is_block block) x.ems.pages) refl

forgotten_leaves : (x : Expanded) (bs : List ℕ) → LeavesOutside x (forgotten_all x bs)
forgotten_leaves x [] = leaves_all x
forgotten_leaves x (b ∷ bs) = leaves_then x (forgotten x b) (forgotten_all (forgotten x b) bs) (forget_leaves x b)
    (forgotten_leaves (forgotten x b) bs)

pub cut_leaves : (x : Expanded) (h n : ℕ) → LeavesOutside x (cut x h n)
unfolding cut
cut_leaves x h n = forgotten_leaves x (drop n (blocks_of x.ems h))

-- ---- calls

pub record Leaves {A : Type 0} (x : Expanded) (r : Result (A × Expanded) Status) : Type 0 where
  pub kept : LeavesOutside x (state_after x r)

pub if_leaves : {A : Type 0} (x : Expanded) (b : Bool) (r s : Result (A × Expanded) Status) → Leaves x r → Leaves x s →
    Leaves x (cond b r s)
if_leaves x true r s p q = p
if_leaves x false r s p q = q

pub need_leaves : {A B : Type 0} (x : Expanded) (o : Option A) (e : Status) (f : A → Result (B × Expanded) Status) →
    ((v : A) → Leaves x (f v)) → Leaves x (need o e f)
need_leaves x None e f h = record { kept = leaves_all x }
need_leaves x (Some v) e f h = h v

pub refused : {A : Type 0} (x : Expanded) (e : Status) → Leaves {A = A} x (Err e)
refused x e = record { kept = leaves_all x }

-- ---- handles

allocate_leaves : (x : Expanded) (n : ℕ) → Leaves x (allocate x n)
unfolding allocate
allocate_leaves x n =
    if_leaves x (n == 0) (Err NoPages) _ (refused x NoPages)
    (need_leaves x (position is_none x.ems.handles) NoHandleLeft _ (λ h.
    let y = with_slot x h (Some blank) in
    if_leaves x (nat_lt x.ems.total n) (Err OverTotal) _ (refused x OverTotal)
    (if_leaves x (nat_lt (unallocated x) n) (Err OverFree) (Ok (h, appended y h n)) (refused x OverFree)
    (record {
      kept = leaves_then x y (appended y h n) (leaves_handles x (set x.ems.handles h
          (Some blank))) (appended_leaves y h n);
    }))))

freed : (x : Expanded) (h : ℕ) (s : Option Handle) → LeavesOutside x (with_slot (cut x h 0) h s)
freed x h s = leaves_then x (cut x h 0) (with_slot (cut x h 0) h s) (cut_leaves x h 0)
    (leaves_handles (cut x h 0) (set (cut x h 0).ems.handles h s))

deallocate_leaves : (x : Expanded) (h : ℕ) → Leaves x (deallocate x h)
unfolding deallocate
deallocate_leaves x h =
    need_leaves x (slot x h) UnknownHandle _ (λ s.
    if_leaves x (is_some s.saved) (Err ContextSaved) _ (refused x ContextSaved)
    (record { kept = freed x h (cond (h == 0) (Some blank) None) }))

-- ---- windows

map_leaves : (x : Expanded) (window page h : ℕ) → Leaves x (map_page x window page h)
unfolding map_page
map_leaves x window page h =
    need_leaves x (slot x h) UnknownHandle _ (λ s.
    if_leaves x (nat_le 4 window) (Err NoSuchWindow) _ (refused x NoSuchWindow)
    (if_leaves x (page == 0xFFFF) (Ok (tt, showing x window None)) _
    (record { kept = leaves_windows x (set x.memory.windows window None) })
    (need_leaves x (slice_get (blocks_of x.ems h) page) NoSuchPage _
    (λ b. record { kept = leaves_windows x (set x.memory.windows window (Some b)) }))))

save_leaves : (x : Expanded) (h : ℕ) → Leaves x (save_map x h)
unfolding save_map
save_leaves x h =
    need_leaves x (slot x h) UnknownHandle _ (λ s.
    if_leaves x (is_some s.saved) (Err SavedAlready) _ (refused x SavedAlready)
    (record { kept = leaves_handles x (set x.ems.handles h (Some (record s { saved = Some x.memory.windows }))) }))

restored : (x : Expanded) (h : ℕ) (s : Option Handle) (windows : List (Option ℕ)) →
    LeavesOutside x (with_slot (with_memory x (with_windows x.memory windows)) h s)
restored x h s windows =
    let y = with_memory x (with_windows x.memory windows) in
    leaves_then x y (with_slot y h s) (leaves_windows x windows) (leaves_handles y (set y.ems.handles h s))

restore_leaves : (x : Expanded) (h : ℕ) → Leaves x (restore_map x h)
unfolding restore_map
restore_leaves x h =
    need_leaves x (slot x h) UnknownHandle _ (λ s.
    need_leaves x s.saved NoneSaved _ (λ windows. record {
      kept = restored x h (Some
          (record s { saved = None })) windows;
    }))

-- ---- names

name_leaves : (x : Expanded) (h segment offset : ℕ) → Leaves x (set_name x h segment offset)
unfolding set_name
name_leaves x h segment offset =
    need_leaves x (slot x h) UnknownHandle _ (λ s.
    if_leaves x (is_name_of_other x.ems h (eight_after x.memory segment offset)) (Err NameTaken) _ (refused x NameTaken)
    (record {
      kept = leaves_handles x (set x.ems.handles h
          (Some (record s { name = eight_after x.memory segment offset })));
    }))

-- ---- all calls

pub calls_leave : CallsLeaveOutside
calls_leave = record {
  allocating = λ x n. (allocate_leaves x n).kept;
  deallocating = λ x h. (deallocate_leaves x h).kept;
  mapping = λ x w p h. (map_leaves x w p h).kept;
  saving = λ x h. (save_leaves x h).kept;
  restoring = λ x h. (restore_leaves x h).kept;
  naming = λ x h s o. (name_leaves x h s o).kept;
  appending = append_leaves;
  cutting = cut_leaves;
  writing = leaves_shaped;
}
