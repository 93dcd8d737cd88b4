-- Each call keeps the tables and the memory consistent.
use Rattle.std.proofs.Common.{◌≡◌, ℕ, ◌+◌, ◌-◌, ◌≤◌, length, Bool, true, false, cond, Some, None, refl, ap}
use Rattle.std.specs.Prelude.{Result, Ok, Err, ◌==◌, nat_lt, is_some}
use Rattle.dm_ems.specs.declared.status.Status.{Status}
use Rattle.dm_ems.specs.declared.status.Status.TheVariants.{OverTotal, OverFree, UnknownHandle, NoSubfunction, BadMap, KindsOverlap, TooLong, ExchangeOverlaps}
use Rattle.dm_ems.specs.Tables.{Expanded, page_count, unallocated, blocks_of, cut, appended}
use Rattle.dm_ems.specs.Consistent.{IsUsed, IsConsistent}
use Rattle.dm_ems.specs.Calls.{slot, with_memory}
use Rattle.dm_space.specs.Memory.{Memory}
use Rattle.dm_space.specs.Places.{IsShaped}
use Rattle.dm_space.specs.moves.Spans.{Span}
use Rattle.dm_space.specs.moves.Overlaps.{overlap}
use Rattle.dm_space.proofs.moves.Shapes.{moves_keep as moves_keep_map}
use Rattle.dm_ems.proofs.Consistent.{consistent_cut, consistent_appended}
use Rattle.dm_ems.proofs.Keeping.{Keeps, if_keeps, else_keeps, need_keeps, has_room, refused, with_shown, writes_keep}
use Rattle.dm_ems_move.specs.Steps.{and_then}
use Rattle.dm_ems_move.specs.Reallocation.{reallocate, reallocated, with_count}
use Rattle.dm_ems_move.specs.Many.{map_many, after_pairs}
use Rattle.dm_ems_move.specs.Maps.{whole_map, map_at, map_entries, with_map}
use Rattle.dm_ems_move.specs.declared.region_moves.Moved.TheVariants.{Apart, Overlapping}
use Rattle.dm_ems_move.specs.RegionMoves.{length_at, regions_of, are_mixed, move_between, exchange_between, move_region, exchange_region}
use Rattle.dm_ems_move.specs.inner.Laws.{MovesKeepConsistency}
use Rattle.dm_ems_move.proofs.Shown.{after_shown, map_shown, written_consistent}

then_keeps : {A B : Type 0} (x : Expanded) (r : Result A Status) (f : A → Result (B × Expanded) Status) →
    IsConsistent x → ((v : A) → r ≡ Ok v → Keeps x (f v)) → Keeps x (and_then r f)
then_keeps x (Ok v) f l h = h v refl
then_keeps x (Err e) f l h = refused x e l

-- ---- another number of pages

if_consistent : (b : Bool) (y z : Expanded) → IsConsistent y → IsConsistent z → IsConsistent (cond b y z)
if_consistent true y z p q = p
if_consistent false y z p q = q

count_consistent : (x : Expanded) (h n : ℕ) → IsUsed x.ems.handles h → length x.ems.pages + (n - page_count x.ems h)
    ≤ x.ems.total → IsConsistent x → IsConsistent (with_count x h n)
count_consistent x h n u room l =
    if_consistent (nat_lt n (page_count x.ems h)) (cut x h n) (appended x h (n - page_count x.ems h))
    (consistent_cut x h n l) (consistent_appended x h (n - page_count x.ems h) u room l)

reallocate_keeps : (x : Expanded) (h n : ℕ) → IsConsistent x → Keeps x (reallocate x h n)
unfolding reallocate
reallocate_keeps x h n l =
    need_keeps x (slot x h) UnknownHandle _ l (λ s e.
    if_keeps x (nat_lt x.ems.total n) (Ok (
      reallocated (page_count x.ems h) (Some OverTotal),
      x,
    )) _ (record { kept = l })
    (else_keeps x (nat_lt (unallocated x) (n - page_count x.ems h))
    (Ok (reallocated (page_count x.ems h) (Some OverFree), x)) (Ok (reallocated n None, with_count x h n))
    (record { kept = l })
    (λ f. record { kept = count_consistent x h n (ap is_some e) (has_room x (n - page_count x.ems h) l f) l })))

-- ---- windows

many_keeps : (x : Expanded) (mode h count s o : ℕ) → IsConsistent x → Keeps x (map_many x mode h count s o)
unfolding map_many
many_keeps x mode h count s o l =
    if_keeps x (nat_lt 1 mode) (Err NoSubfunction) _ (refused x NoSubfunction l)
    (need_keeps x (slot x h) UnknownHandle _ l (λ t e.
    then_keeps x (after_pairs x.memory (blocks_of x.ems h) (mode == 1) s o count) _ l (λ ws is.
    record { kept = with_shown x ws l (after_shown x h (mode == 1) s o count ws l is) })))

map_keeps : (x : Expanded) (mode ts to fs fo : ℕ) → IsConsistent x → Keeps x (whole_map x mode ts to fs fo)
unfolding whole_map
map_keeps x mode ts to fs fo l =
    let written = written_consistent x ts to (map_entries x.ems.pages x.memory.windows) l in
    if_keeps x (mode == 0) (Ok (None, with_map x ts to)) _ (record { kept = written })
    (if_keeps x (mode == 1) _ _
    (need_keeps x (map_at x.ems x.memory fs fo) BadMap _ l
    (λ ws is. record { kept = with_shown x ws l (map_shown x.ems x.memory fs fo ws is) }))
    (if_keeps x (mode == 2) _ _
    (need_keeps x (map_at x.ems x.memory fs fo) BadMap _ l
    (λ ws is. record { kept = with_shown (with_map x ts to) ws written (map_shown x.ems x.memory fs fo ws is) }))
    (if_keeps x (mode == 3) (Ok (Some 16, x)) (Err NoSubfunction) (record { kept = l }) (refused x NoSubfunction l))))

-- ---- regions

-- a memory of the same map
shaped_keeps : {A : Type 0} (x : Expanded) (v : A) (m : Memory) → IsShaped x.memory m → IsConsistent x →
    Keeps x (Ok (v, with_memory x m))
shaped_keeps x v m s l = record { kept = writes_keep x m s l }

move_keeps : (x : Expanded) (n : ℕ) (from to : Span) → IsConsistent x → Keeps x (move_between x n from to)
unfolding move_between
move_keeps x n from to l =
    if_keeps x (overlap x.memory from to n) _ _
    (if_keeps x (are_mixed from to) (Err KindsOverlap) _ (refused x KindsOverlap l)
    (shaped_keeps x Overlapping _ (moves_keep_map.moving x.memory from to n) l))
    (shaped_keeps x Apart _ (moves_keep_map.moving x.memory from to n) l)

exchange_keeps : (x : Expanded) (n : ℕ) (from to : Span) → IsConsistent x → Keeps x (exchange_between x n from to)
unfolding exchange_between
exchange_keeps x n from to l =
    if_keeps x (overlap x.memory from to n) _ _
    (if_keeps x (are_mixed from to) (Err KindsOverlap) (Err ExchangeOverlaps) (refused x KindsOverlap l)
    (refused x ExchangeOverlaps l))
    (shaped_keeps x tt _ (moves_keep_map.exchanging x.memory from to n) l)

move_region_keeps : (x : Expanded) (s o : ℕ) → IsConsistent x → Keeps x (move_region x s o)
unfolding move_region
move_region_keeps x s o l =
    let n = length_at x.memory s o in
    if_keeps x (n == 0) (Ok (Apart, x)) _ (record { kept = l })
    (if_keeps x (nat_lt 0x100000 n) (Err TooLong) _ (refused x TooLong l)
    (then_keeps x (regions_of x s o n) _ l (λ r _. move_keeps x n r.0 r.1 l)))

exchange_region_keeps : (x : Expanded) (s o : ℕ) → IsConsistent x → Keeps x (exchange_region x s o)
unfolding exchange_region
exchange_region_keeps x s o l =
    let n = length_at x.memory s o in
    if_keeps x (n == 0) (Ok (tt, x)) _ (record { kept = l })
    (if_keeps x (nat_lt 0x100000 n) (Err TooLong) _ (refused x TooLong l)
    (then_keeps x (regions_of x s o n) _ l (λ r _. exchange_keeps x n r.0 r.1 l)))

-- ---- all calls

pub moves_keep : MovesKeepConsistency
moves_keep = record {
  reallocating = λ x h n l. (reallocate_keeps x h n l).kept;
  mapping = λ x mode h count s o l. (many_keeps x mode h count s o l).kept;
  setting = λ x mode ts to fs fo l. (map_keeps x mode ts to fs fo l).kept;
  moving = λ x s o l. (move_region_keeps x s o l).kept;
  exchanging = λ x s o l. (exchange_region_keeps x s o l).kept;
}
