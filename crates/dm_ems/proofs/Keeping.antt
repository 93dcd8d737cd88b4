-- Each call keeps the tables and the memory consistent.
use Rattle.std.proofs.Common.{◌≡◌, ℕ, zero, suc, ◌+◌, ◌-◌, ◌≤◌, Bool, true, false, cond, List, [], ◌∷◌, Option, Some, None, length, get_or, set, refl, sym, ◌∙◌, ap, subst, replicate, arith}
use Rattle.std.specs.Prelude.{Result, Ok, Err, ◌==◌, nat_lt, nat_le, min, is_some, is_none, position, IfSome, slice_get}
use Rattle.std.proofs.lemmas.Bool.Decides.{nat_tests}
use Rattle.std.proofs.lemmas.List.{get_or-set_same}
use Rattle.std.proofs.lemmas.List.Quantifiers.{position-Some}
use Rattle.std.proofs.lemmas.Option.{none-some}
use Rattle.std.proofs.lemmas.List.{length-replicate}
use Rattle.dm_pool.specs.declared.extent.Extent.{Extent}
use Rattle.dm_pool.specs.Blocks.{no_blocks}
use Rattle.dm_pool.specs.FreeList.{AreBased}
use Rattle.dm_pool.specs.Gaps.{gaps, count_fitting}
use Rattle.dm_pool.proofs.Blocks.{no_place}
use Rattle.dm_space.specs.Memory.{Memory, IsPage, no_windows}
use Rattle.dm_space.specs.Places.{IsShaped}
use Rattle.dm_space.specs.EightBytes.{eight_after}
use Rattle.dm_ems.specs.declared.status.Status.{Status}
use Rattle.dm_ems.specs.declared.status.Status.TheVariants.{NoPages, NoHandleLeft, OverTotal, OverFree, UnknownHandle, ContextSaved, NoSuchWindow, NoSuchPage, SavedAlready, NoneSaved, NameTaken}
use Rattle.dm_ems.specs.declared.tables.Handle.{Handle}
use Rattle.dm_ems.specs.declared.tables.Page.{Page}
use Rattle.dm_ems.specs.Tables.{Expanded, blank, appended, cut, unallocated, blocks_of, with_windows}
use Rattle.dm_ems.specs.Consistent.{block_at, IsUsed, IsOwned, ShowsPages, SavesPages, IsConsistent}
use Rattle.dm_ems.specs.Calls.{state_after, need, slot, with_slot, with_memory}
use Rattle.dm_ems.specs.Handles.{allocate, deallocate}
use Rattle.dm_ems.specs.Maps.{map_page, save_map, restore_map, showing}
use Rattle.dm_ems.specs.Names.{set_name, is_name_of_other}
use Rattle.dm_ems.specs.inner.Laws.{StartIsConsistent, CallsKeepConsistency, WritesKeepConsistency}
use Rattle.dm_ems.proofs.Owned.{each_block}
use Rattle.dm_ems.proofs.Consistent.{consistent_append, consistent_appended, consistent_cut, consistent_slot}
use Rattle.dm_ems.proofs.HandleBlocks.{none_left}

-- ---- calls

pub record Keeps {A : Type 0} (x : Expanded) (r : Result (A × Expanded) Status) : Type 0 where
  pub kept : IsConsistent (state_after x r)

pub if_keeps : {A : Type 0} (x : Expanded) (b : Bool) (r s : Result (A × Expanded) Status) → Keeps x r → Keeps x s →
    Keeps x (cond b r s)
if_keeps x true r s p q = p
if_keeps x false r s p q = q

pub else_keeps : {A : Type 0} (x : Expanded) (b : Bool) (r s : Result (A × Expanded) Status) → Keeps x r →
    (b ≡ false → Keeps x s) → Keeps x (cond b r s)
else_keeps x true r s p q = p
else_keeps x false r s p q = q refl

pub need_keeps : {A B : Type 0} (x : Expanded) (o : Option A) (e : Status) (f : A → Result (B × Expanded) Status) →
    IsConsistent x → ((v : A) → o ≡ Some v → Keeps x (f v)) → Keeps x (need o e f)
need_keeps x None e f l h = record { kept = l }
need_keeps x (Some v) e f l h = h v refl

pub refused : {A : Type 0} (x : Expanded) (e : Status) → IsConsistent x → Keeps {A = A} x (Err e)
refused x e l = record { kept = l }

-- ---- handles

-- the tables once a new handle is in use
pub opened : (x : Expanded) (h : ℕ) → IsConsistent x → IsConsistent (with_slot x h (Some blank))
opened x h l = consistent_slot x h (Some blank) l tt (λ k lt e. refl)

pub opened_used : (x : Expanded) (h : ℕ) → position is_none x.ems.handles ≡ Some h →
    IsUsed (with_slot x h (Some blank)).ems.handles h
opened_used x h e = let at = position-Some is_none x.ems.handles h None e in
    ap is_some (get_or-set_same x.ems.handles h (Some blank) None at.0)

-- the machine has as many pages more as can be allocated
pub has_room : (x : Expanded) (n : ℕ) → IsConsistent x → nat_lt (unallocated x) n ≡ false →
    length x.ems.pages + n ≤ x.ems.total
has_room x n l e =
    let fit = count_fitting 16 (gaps x.memory.blocks.places x.memory.blocks.units) in
    let le : n ≤ min fit (x.ems.total - length x.ems.pages) = not_less (unallocated x) n e in omega (arith, le, l.few)
  where
    not_less : (a b : ℕ) → nat_lt a b ≡ false → b ≤ a
    not_less a b e = grind (arith, nat_tests, e)

allocate_keeps : (x : Expanded) (n : ℕ) → IsConsistent x → Keeps x (allocate x n)
unfolding allocate
allocate_keeps x n l =
    if_keeps x (n == 0) (Err NoPages) _ (refused x NoPages l)
    (need_keeps x (position is_none x.ems.handles) NoHandleLeft _ l (λ h e.
    if_keeps x (nat_lt x.ems.total n) (Err OverTotal) _ (refused x OverTotal l)
    (else_keeps x (nat_lt (unallocated x) n) (Err OverFree) (Ok (h, appended (with_slot x h (Some blank)) h n))
    (refused x OverFree l)
    (λ f. record {
      kept = consistent_appended (with_slot x h (Some blank)) h n (opened_used x h e) (has_room x n l
          f) (opened x h l);
    }))))

freed_slot : (ps : List Page) (b : Bool) → SavesPages ps (cond b (Some blank) None)
freed_slot ps true = tt
freed_slot ps false = tt

freed : (x : Expanded) (h : ℕ) → IsConsistent x → Keeps {A = Unit {0}} x (Ok (
  tt,
  with_slot (cut x h 0) h (cond (h == 0) (Some blank) None),
))
freed x h l = record {
  kept = consistent_slot (cut x h 0) h (cond (h == 0) (Some blank) None) (consistent_cut x h 0
      l) (freed_slot (cut x h 0).ems.pages (h == 0)) (λ k lt e. absurd (none_left x h k l lt e));
}

deallocate_keeps : (x : Expanded) (h : ℕ) → IsConsistent x → Keeps x (deallocate x h)
unfolding deallocate
deallocate_keeps x h l =
    need_keeps x (slot x h) UnknownHandle _ l (λ s e. if_keeps x (is_some s.saved) (Err ContextSaved) _
    (refused x ContextSaved l) (freed x h l))

-- ---- windows

pub window_set : (ps : List Page) (ws : List (Option ℕ)) (k : ℕ) (w : Option ℕ) → ShowsPages ps ws →
    IfSome w (IsOwned ps) → ShowsPages ps (set ws k w)
window_set ps [] k w h p j = tt
window_set ps (x ∷ ws) zero w h p zero = p
window_set ps (x ∷ ws) zero w h p (suc j) = h (suc j)
window_set ps (x ∷ ws) (suc k) w h p zero = h 0
window_set ps (x ∷ ws) (suc k) w h p (suc j) = window_set ps ws k w (λ i. h (suc i)) p j

pub with_shown : (x : Expanded) (windows : List (Option ℕ)) → IsConsistent x → ShowsPages x.ems.pages windows →
    IsConsistent (with_memory x (with_windows x.memory windows))
with_shown x windows l h = record {
  places = l.places;
  contents = l.contents;
  based = l.based;
  total = l.total;
  few = l.few;
  used = l.used;
  owned = l.owned;
  apart = l.apart;
  shown = h;
  saved = l.saved;
}

map_keeps : (x : Expanded) (window page h : ℕ) → IsConsistent x → Keeps x (map_page x window page h)
unfolding map_page
map_keeps x window page h l =
    need_keeps x (slot x h) UnknownHandle _ l (λ s e.
    if_keeps x (nat_le 4 window) (Err NoSuchWindow) _ (refused x NoSuchWindow l)
    (if_keeps x (page == 0xFFFF) (Ok (tt, showing x window None)) _
    (record {
      kept = with_shown x (set x.memory.windows window None) l (window_set x.ems.pages x.memory.windows window
          None l.shown tt);
    })
    (need_keeps x (slice_get (blocks_of x.ems h) page) NoSuchPage _ l (λ b is.
    record {
      kept = with_shown x (set x.memory.windows window (Some b)) l
          (window_set x.ems.pages x.memory.windows window (Some b) l.shown
          (each_block (IsOwned x.ems.pages) x.ems.pages h page b (λ k j. (k, j, refl)) is));
    }))))

-- the saved windows of a handle show pages
saved_at : (x : Expanded) (h : ℕ) (s : Handle) → IsConsistent x → slot x h ≡ Some s → SavesPages x.ems.pages (Some s)
saved_at x h s l e = subst (SavesPages x.ems.pages) e (l.saved h)

save_keeps : (x : Expanded) (h : ℕ) → IsConsistent x → Keeps x (save_map x h)
unfolding save_map
save_keeps x h l =
    need_keeps x (slot x h) UnknownHandle _ l (λ s e.
    if_keeps x (is_some s.saved) (Err SavedAlready) _ (refused x SavedAlready l)
    (record {
      kept = consistent_slot x h (Some (record s { saved = Some x.memory.windows })) l l.shown (λ k lt f.
          refl);
    }))

restored : (x : Expanded) (h : ℕ) (s : Handle) (o : Option (List (Option ℕ))) → s.saved ≡ o → slot x h ≡ Some s →
    IsConsistent x
    → Keeps {A = Unit {0}} x (need o NoneSaved (λ windows. Ok (
      tt,
      with_slot (with_memory x (with_windows x.memory windows)) h (Some (record s { saved = None })),
    )))
restored x h s None e f l = refused x NoneSaved l
restored x h s (Some windows) e f l =
    let shows : ShowsPages x.ems.pages windows =
    subst (λ (o : Option (List (Option ℕ))). IfSome o (ShowsPages x.ems.pages)) e (saved_at x h s l f) in
    record {
      kept = consistent_slot (with_memory x (with_windows x.memory windows)) h (Some
          (record s { saved = None })) (with_shown x windows l shows) tt (λ k lt g. refl);
    }

restore_keeps : (x : Expanded) (h : ℕ) → IsConsistent x → Keeps x (restore_map x h)
unfolding restore_map
restore_keeps x h l = need_keeps x (slot x h) UnknownHandle _ l (λ s e. restored x h s s.saved refl e l)

-- ---- names

name_keeps : (x : Expanded) (h segment offset : ℕ) → IsConsistent x → Keeps x (set_name x h segment offset)
unfolding set_name
name_keeps x h segment offset l =
    need_keeps x (slot x h) UnknownHandle _ l (λ s e.
    if_keeps x (is_name_of_other x.ems h (eight_after x.memory segment offset)) (Err NameTaken) _
    (refused x NameTaken l)
    (record {
      kept = consistent_slot x h (Some (record s { name = eight_after x.memory segment offset })) l (saved_at x
          h s l e) (λ k lt f. refl);
    }))

-- ---- all calls

pub calls_keep : CallsKeepConsistency
calls_keep = record {
  allocating = λ x n l. (allocate_keeps x n l).kept;
  deallocating = λ x h l. (deallocate_keeps x h l).kept;
  mapping = λ x w p h l. (map_keeps x w p h l).kept;
  saving = λ x h l. (save_keeps x h l).kept;
  restoring = λ x h l. (restore_keeps x h l).kept;
  naming = λ x h s o l. (name_keeps x h s o l).kept;
  appending = consistent_append;
  cutting = consistent_cut;
}

-- ---- writes

page_kept : (m n : Memory) (b : ℕ) → IsShaped m n → IsPage m b → IsPage n b
page_kept m n b s p = (
  (p.0.0, (p.0.1.0, ap (λ (xs : List (Option Extent)). get_or xs b None) s.places ∙ p.0.1.1)),
  s.page_sizes b ∙ p.1,
)

pub writes_keep : WritesKeepConsistency
writes_keep x m s l = record {
  places = ap length s.places ∙ l.places;
  contents = s.page_count ∙ l.contents;
  based = subst AreBased (sym s.places) l.based;
  total = l.total;
  few = l.few;
  used = l.used;
  owned = λ k h. page_kept x.memory m (block_at x.ems.pages k) s (l.owned k h);
  apart = l.apart;
  shown = subst (ShowsPages x.ems.pages) (sym s.windows) l.shown;
  saved = l.saved;
}

-- ---- the start

none_shown : (k : ℕ) → IfSome (get_or no_windows k None) (IsOwned [])
none_shown zero = tt
none_shown (suc zero) = tt
none_shown (suc (suc zero)) = tt
none_shown (suc (suc (suc zero))) = tt
none_shown (suc (suc (suc (suc k)))) = tt

none_saved : (n k : ℕ) → let none : Option Handle = None in SavesPages [] (get_or (replicate n none) k none)
none_saved zero k = tt
none_saved (suc n) zero = tt
none_saved (suc n) (suc k) = none_saved n k

first_saved : (n k : ℕ) → let none : Option Handle = None in SavesPages [] (get_or (Some blank
    ∷ replicate n none) k none)
first_saved n zero = tt
first_saved n (suc k) = none_saved n k

sizes : (units : ℕ) → (length (no_blocks units).places ≡ 576) × (length (no_blocks units).contents ≡ 576)
unfolding no_blocks
sizes units = (length-replicate {A = Option Extent} 576 None, length-replicate {A = List ℕ} 576 [])

none_based : (units : ℕ) → AreBased (no_blocks units).places
unfolding no_blocks
none_based units i b e z = absurd (none-some b (sym (no_place 576 i) ∙ e))

pub start_consistent : StartIsConsistent
start_consistent total units low few = record {
  places = (sizes units).0;
  contents = (sizes units).1;
  based = none_based units;
  total = few;
  few = omega arith;
  used = λ k h. absurd (omega (arith, h));
  owned = λ k h. absurd (omega (arith, h));
  apart = λ i j d p q. absurd (omega (arith, q));
  shown = none_shown;
  saved = first_saved 63;
}
