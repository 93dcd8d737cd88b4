-- Calls leave what is outside of expanded memory.
use Rattle.std.proofs.Common.{ℕ, ◌-◌, Bool, true, false, cond, Some, None}
use Rattle.std.specs.Prelude.{Result, Ok, Err, ◌==◌, nat_lt}
use Rattle.dm_space.specs.Memory.{Memory}
use Rattle.dm_space.specs.Places.{IsShaped}
use Rattle.dm_ems.specs.declared.status.Status.{Status}
use Rattle.dm_ems.specs.declared.status.Status.TheVariants.{OverTotal, OverFree, UnknownHandle, NoSubfunction, BadMap, KindsOverlap, TooLong, ExchangeOverlaps}
use Rattle.dm_ems.specs.Tables.{Expanded, page_count, unallocated, blocks_of, cut, appended}
use Rattle.dm_ems.specs.inner.Outside.{LeavesOutside}
use Rattle.dm_ems.specs.Calls.{slot, with_memory}
use Rattle.dm_space.specs.moves.Spans.{Span}
use Rattle.dm_space.specs.moves.Overlaps.{overlap}
use Rattle.dm_space.proofs.moves.Shapes.{moves_keep as moves_keep_map}
use Rattle.dm_ems.proofs.Leaving.{Leaves, if_leaves, need_leaves, refused, leaves_all, leaves_then, leaves_windows, leaves_shaped, appended_leaves, cut_leaves}
use Rattle.dm_ems_move.specs.Steps.{and_then}
use Rattle.dm_ems_move.specs.Reallocation.{reallocate, reallocated, with_count}
use Rattle.dm_ems_move.specs.Many.{map_many, after_pairs}
use Rattle.dm_ems_move.specs.Maps.{whole_map, map_at, map_entries, with_map, showing_all}
use Rattle.dm_ems_move.specs.declared.region_moves.Moved.TheVariants.{Apart, Overlapping}
use Rattle.dm_ems_move.specs.RegionMoves.{length_at, regions_of, are_mixed, move_between, exchange_between, move_region, exchange_region}
use Rattle.dm_ems_move.specs.inner.Laws.{MovesLeaveOutside}
use Rattle.dm_ems_move.proofs.Shown.{bytes_shaped}

then_leaves : {A B : Type 0} (x : Expanded) (r : Result A Status) (f : A → Result (B × Expanded) Status) →
    ((v : A) → Leaves x (f v)) → Leaves x (and_then r f)
then_leaves x (Ok v) f h = h v
then_leaves x (Err e) f h = refused x e

-- ---- another number of pages

if_left : (x : Expanded) (b : Bool) (y z : Expanded) → LeavesOutside x y → LeavesOutside x z →
    LeavesOutside x (cond b y z)
if_left x true y z p q = p
if_left x false y z p q = q

count_leaves : (x : Expanded) (h n : ℕ) → LeavesOutside x (with_count x h n)
count_leaves x h n =
    if_left x (nat_lt n (page_count x.ems h)) (cut x h n) (appended x h (n - page_count x.ems h)) (cut_leaves x h n)
    (appended_leaves x h (n - page_count x.ems h))

reallocate_leaves : (x : Expanded) (h n : ℕ) → Leaves x (reallocate x h n)
unfolding reallocate
reallocate_leaves x h n =
    need_leaves x (slot x h) UnknownHandle _ (λ s.
    if_leaves x (nat_lt x.ems.total n) (Ok (
      reallocated (page_count x.ems h) (Some OverTotal),
      x,
    )) _ (record { kept = leaves_all x })
    (if_leaves x (nat_lt (unallocated x) (n - page_count x.ems h))
    (Ok (reallocated (page_count x.ems h) (Some OverFree), x)) (Ok (reallocated n None, with_count x h n))
    (record { kept = leaves_all x })
    (record { kept = count_leaves x h n })))

-- ---- windows

many_leaves : (x : Expanded) (mode h count s o : ℕ) → Leaves x (map_many x mode h count s o)
unfolding map_many
many_leaves x mode h count s o =
    if_leaves x (nat_lt 1 mode) (Err NoSubfunction) _ (refused x NoSubfunction)
    (need_leaves x (slot x h) UnknownHandle _ (λ t.
    then_leaves x (after_pairs x.memory (blocks_of x.ems h) (mode == 1) s o count) _
    (λ ws. record { kept = leaves_windows x ws })))

map_leaves : (x : Expanded) (mode ts to fs fo : ℕ) → Leaves x (whole_map x mode ts to fs fo)
unfolding whole_map
map_leaves x mode ts to fs fo =
    let y = with_map x ts to in
    let written : LeavesOutside x y = leaves_shaped x _ (bytes_shaped x.memory ts to
    (map_entries x.ems.pages x.memory.windows)) in
    if_leaves x (mode == 0) (Ok (None, y)) _ (record { kept = written })
    (if_leaves x (mode == 1) _ _
    (need_leaves x (map_at x.ems x.memory fs fo) BadMap _ (λ ws. record { kept = leaves_windows x ws }))
    (if_leaves x (mode == 2) _ _
    (need_leaves x (map_at x.ems x.memory fs fo) BadMap _
    (λ ws. record { kept = leaves_then x y (showing_all y ws) written (leaves_windows y ws) }))
    (if_leaves x (mode == 3) (Ok (Some 16, x)) (Err NoSubfunction) (record { kept = leaves_all x })
    (refused x NoSubfunction))))

-- ---- regions

-- a memory of the same map
shaped_leaves : {A : Type 0} (x : Expanded) (v : A) (m : Memory) → IsShaped x.memory m →
    Leaves x (Ok (v, with_memory x m))
shaped_leaves x v m s = record { kept = leaves_shaped x m s }

move_leaves : (x : Expanded) (n : ℕ) (from to : Span) → Leaves x (move_between x n from to)
unfolding move_between
move_leaves x n from to =
    if_leaves x (overlap x.memory from to n) _ _
    (if_leaves x (are_mixed from to) (Err KindsOverlap) _ (refused x KindsOverlap) (shaped_leaves x Overlapping _
    (moves_keep_map.moving x.memory from to n)))
    (shaped_leaves x Apart _ (moves_keep_map.moving x.memory from to n))

exchange_leaves : (x : Expanded) (n : ℕ) (from to : Span) → Leaves x (exchange_between x n from to)
unfolding exchange_between
exchange_leaves x n from to =
    if_leaves x (overlap x.memory from to n) _ _
    (if_leaves x (are_mixed from to) (Err KindsOverlap) (Err ExchangeOverlaps) (refused x KindsOverlap)
    (refused x ExchangeOverlaps))
    (shaped_leaves x tt _ (moves_keep_map.exchanging x.memory from to n))

move_region_leaves : (x : Expanded) (s o : ℕ) → Leaves x (move_region x s o)
unfolding move_region
move_region_leaves x s o =
    let n = length_at x.memory s o in
    if_leaves x (n == 0) (Ok (Apart, x)) _ (record { kept = leaves_all x })
    (if_leaves x (nat_lt 0x100000 n) (Err TooLong) _ (refused x TooLong)
    (then_leaves x (regions_of x s o n) _ (λ r. move_leaves x n r.0 r.1)))

exchange_region_leaves : (x : Expanded) (s o : ℕ) → Leaves x (exchange_region x s o)
unfolding exchange_region
exchange_region_leaves x s o =
    let n = length_at x.memory s o in
    if_leaves x (n == 0) (Ok (tt, x)) _ (record { kept = leaves_all x })
    (if_leaves x (nat_lt 0x100000 n) (Err TooLong) _ (refused x TooLong)
    (then_leaves x (regions_of x s o n) _ (λ r. exchange_leaves x n r.0 r.1)))

-- ---- all calls

pub moves_leave : MovesLeaveOutside
moves_leave = record {
  reallocating = λ x h n. (reallocate_leaves x h n).kept;
  mapping = λ x mode h count s o. (many_leaves x mode h count s o).kept;
  setting = λ x mode ts to fs fo. (map_leaves x mode ts to fs fo).kept;
  moving = λ x s o. (move_region_leaves x s o).kept;
  exchanging = λ x s o. (exchange_region_leaves x s o).kept;
}
