-- The kept prefixes in the order of their bytes are the least that keep the same.
use Rattle.std.proofs.Common.{◌≡◌, ◌≤◌, Bool, true, false, List, [], ◌∷◌, ◌++◌, length, Option, Some, None, refl, arith}
use Rattle.std.specs.Prelude.{map}
use Rattle.std.specs.Ordering.{nat_cmp}
use Rattle.std.specs.declared.cmp.Ordering.TheVariants.{Greater}
use Rattle.dm_ins.specs.declared.operand.SegmentRegister.{SegmentRegister}
use Rattle.dm_ins.specs.declared.operand.SegmentRegister.TheVariants.{Es, Cs, Ss, Ds}
use Rattle.dm_ins.specs.declared.prefix.Repeat.{Repeat}
use Rattle.dm_ins.specs.declared.prefix.Repeat.TheVariants.{NotEqual, Equal}
use Rattle.dm_ins.specs.declared.prefix.Prefix.{Prefix}
use Rattle.dm_ins.specs.declared.prefix.Prefix.TheVariants as prefix
use Rattle.dm_ins.specs.Spelling.{prefix_byte, segment_byte, repeat_byte, no_prefix, kept}
use Rattle.dm_ins.specs.Order.{before}
use Rattle.dm_ins.specs.inner.Search.{prefix_list, segment_list, lock_list, repeat_list}
use Rattle.dm_ins.proofs.Order.{not_before_itself, not_shorter, same_first, greater_first}

lock_after_segment : (s : SegmentRegister) → nat_cmp 0xF0 (segment_byte s) ≡ Greater
lock_after_segment Es = refl
lock_after_segment Cs = refl
lock_after_segment Ss = refl
lock_after_segment Ds = refl

repeat_after_segment : (r : Repeat) (s : SegmentRegister) → nat_cmp (repeat_byte r) (segment_byte s) ≡ Greater
repeat_after_segment NotEqual Es = refl
repeat_after_segment NotEqual Cs = refl
repeat_after_segment NotEqual Ss = refl
repeat_after_segment NotEqual Ds = refl
repeat_after_segment Equal Es = refl
repeat_after_segment Equal Cs = refl
repeat_after_segment Equal Ss = refl
repeat_after_segment Equal Ds = refl

repeat_after_lock : (r : Repeat) → nat_cmp (repeat_byte r) 0xF0 ≡ Greater
repeat_after_lock NotEqual = refl
repeat_after_lock Equal = refl

pub three_by : (s : Option SegmentRegister) (l : Bool) (r : Option Repeat) →
    length (map prefix_byte (segment_list s ++ lock_list l ++ repeat_list r)) ≤ 3
three_by None false None = omega arith
three_by None false (Some r) = omega arith
three_by None true None = omega arith
three_by None true (Some r) = omega arith
three_by (Some s) false None = omega arith
three_by (Some s) false (Some r) = omega arith
three_by (Some s) true None = omega arith
three_by (Some s) true (Some r) = omega arith

pub prefixes_least : (xs : List Prefix) → length xs ≤ 4 →
    before (map prefix_byte xs) (map prefix_byte (prefix_list (kept no_prefix xs))) ≡ false
prefixes_least ([]) few = not_before_itself ([])
prefixes_least ((prefix.Segment s0) ∷ []) few = not_before_itself ((segment_byte s0) ∷ [])
prefixes_least (prefix.Lock ∷ []) few = not_before_itself ((0xF0) ∷ [])
prefixes_least ((prefix.Repeat r0) ∷ []) few = not_before_itself ((repeat_byte r0) ∷ [])
prefixes_least ((prefix.Segment s0) ∷ (prefix.Segment s1) ∷ []) few = not_shorter ((segment_byte s1)
    ∷ []) ((segment_byte s0) ∷ (segment_byte s1) ∷ []) (omega arith)
prefixes_least ((prefix.Segment s0) ∷ prefix.Lock ∷ []) few = not_before_itself ((segment_byte s0) ∷ (0xF0) ∷ [])
prefixes_least ((prefix.Segment s0) ∷ (prefix.Repeat r1) ∷ []) few = not_before_itself ((segment_byte s0)
    ∷ (repeat_byte r1) ∷ [])
prefixes_least (prefix.Lock ∷ (prefix.Segment s1) ∷ []) few = greater_first (0xF0) (segment_byte s1) ((segment_byte s1)
    ∷ []) ((0xF0) ∷ []) (lock_after_segment s1) refl
prefixes_least (prefix.Lock ∷ prefix.Lock ∷ []) few = not_shorter ((0xF0) ∷ []) ((0xF0) ∷ (0xF0) ∷ []) (omega arith)
prefixes_least (prefix.Lock ∷ (prefix.Repeat r1) ∷ []) few = not_before_itself ((0xF0) ∷ (repeat_byte r1) ∷ [])
prefixes_least ((prefix.Repeat r0) ∷ (prefix.Segment s1) ∷ []) few =
    greater_first (repeat_byte r0) (segment_byte s1) ((segment_byte s1) ∷ []) ((repeat_byte r0)
    ∷ []) (repeat_after_segment r0 s1) refl
prefixes_least ((prefix.Repeat r0) ∷ prefix.Lock ∷ []) few = greater_first (repeat_byte r0) (0xF0) ((0xF0)
    ∷ []) ((repeat_byte r0) ∷ []) (repeat_after_lock r0) refl
prefixes_least ((prefix.Repeat r0) ∷ (prefix.Repeat r1) ∷ []) few = not_shorter ((repeat_byte r1)
    ∷ []) ((repeat_byte r0) ∷ (repeat_byte r1) ∷ []) (omega arith)
prefixes_least ((prefix.Segment s0) ∷ (prefix.Segment s1) ∷ (prefix.Segment s2) ∷ []) few =
    not_shorter ((segment_byte s2) ∷ []) ((segment_byte s0) ∷ (segment_byte s1) ∷ (segment_byte s2) ∷ []) (omega arith)
prefixes_least ((prefix.Segment s0) ∷ (prefix.Segment s1) ∷ prefix.Lock ∷ []) few =
    not_shorter ((segment_byte s1) ∷ (0xF0) ∷ []) ((segment_byte s0) ∷ (segment_byte s1) ∷ (0xF0) ∷ []) (omega arith)
prefixes_least ((prefix.Segment s0) ∷ (prefix.Segment s1) ∷ (prefix.Repeat r2) ∷ []) few =
    not_shorter ((segment_byte s1) ∷ (repeat_byte r2) ∷ []) ((segment_byte s0) ∷ (segment_byte s1) ∷ (repeat_byte r2)
    ∷ []) (omega arith)
prefixes_least ((prefix.Segment s0) ∷ prefix.Lock ∷ (prefix.Segment s2) ∷ []) few =
    not_shorter ((segment_byte s2) ∷ (0xF0) ∷ []) ((segment_byte s0) ∷ (0xF0) ∷ (segment_byte s2) ∷ []) (omega arith)
prefixes_least ((prefix.Segment s0) ∷ prefix.Lock ∷ prefix.Lock ∷ []) few =
    not_shorter ((segment_byte s0) ∷ (0xF0) ∷ []) ((segment_byte s0) ∷ (0xF0) ∷ (0xF0) ∷ []) (omega arith)
prefixes_least ((prefix.Segment s0) ∷ prefix.Lock ∷ (prefix.Repeat r2) ∷ []) few =
    not_before_itself ((segment_byte s0) ∷ (0xF0) ∷ (repeat_byte r2) ∷ [])
prefixes_least ((prefix.Segment s0) ∷ (prefix.Repeat r1) ∷ (prefix.Segment s2) ∷ []) few =
    not_shorter ((segment_byte s2) ∷ (repeat_byte r1) ∷ []) ((segment_byte s0) ∷ (repeat_byte r1) ∷ (segment_byte s2)
    ∷ []) (omega arith)
prefixes_least ((prefix.Segment s0) ∷ (prefix.Repeat r1) ∷ prefix.Lock ∷ []) few =
    same_first (segment_byte s0) ((repeat_byte r1) ∷ (0xF0) ∷ []) ((0xF0) ∷ (repeat_byte r1)
    ∷ []) (greater_first (repeat_byte r1) (0xF0) ((0xF0) ∷ []) ((repeat_byte r1) ∷ []) (repeat_after_lock r1) refl)
prefixes_least ((prefix.Segment s0) ∷ (prefix.Repeat r1) ∷ (prefix.Repeat r2) ∷ []) few =
    not_shorter ((segment_byte s0) ∷ (repeat_byte r2) ∷ []) ((segment_byte s0) ∷ (repeat_byte r1) ∷ (repeat_byte r2)
    ∷ []) (omega arith)
prefixes_least (prefix.Lock ∷ (prefix.Segment s1) ∷ (prefix.Segment s2) ∷ []) few =
    not_shorter ((segment_byte s2) ∷ (0xF0) ∷ []) ((0xF0) ∷ (segment_byte s1) ∷ (segment_byte s2) ∷ []) (omega arith)
prefixes_least (prefix.Lock ∷ (prefix.Segment s1) ∷ prefix.Lock ∷ []) few =
    not_shorter ((segment_byte s1) ∷ (0xF0) ∷ []) ((0xF0) ∷ (segment_byte s1) ∷ (0xF0) ∷ []) (omega arith)
prefixes_least (prefix.Lock ∷ (prefix.Segment s1) ∷ (prefix.Repeat r2) ∷ []) few =
    greater_first (0xF0) (segment_byte s1) ((segment_byte s1) ∷ (repeat_byte r2) ∷ []) ((0xF0) ∷ (repeat_byte r2)
    ∷ []) (lock_after_segment s1) refl
prefixes_least (prefix.Lock ∷ prefix.Lock ∷ (prefix.Segment s2) ∷ []) few =
    not_shorter ((segment_byte s2) ∷ (0xF0) ∷ []) ((0xF0) ∷ (0xF0) ∷ (segment_byte s2) ∷ []) (omega arith)
prefixes_least (prefix.Lock ∷ prefix.Lock ∷ prefix.Lock ∷ []) few = not_shorter ((0xF0) ∷ []) ((0xF0) ∷ (0xF0) ∷ (0xF0)
    ∷ []) (omega arith)
prefixes_least (prefix.Lock ∷ prefix.Lock ∷ (prefix.Repeat r2) ∷ []) few =
    not_shorter ((0xF0) ∷ (repeat_byte r2) ∷ []) ((0xF0) ∷ (0xF0) ∷ (repeat_byte r2) ∷ []) (omega arith)
prefixes_least (prefix.Lock ∷ (prefix.Repeat r1) ∷ (prefix.Segment s2) ∷ []) few =
    greater_first (0xF0) (segment_byte s2) ((repeat_byte r1) ∷ (segment_byte s2) ∷ []) ((0xF0) ∷ (repeat_byte r1)
    ∷ []) (lock_after_segment s2) refl
prefixes_least (prefix.Lock ∷ (prefix.Repeat r1) ∷ prefix.Lock ∷ []) few =
    not_shorter ((0xF0) ∷ (repeat_byte r1) ∷ []) ((0xF0) ∷ (repeat_byte r1) ∷ (0xF0) ∷ []) (omega arith)
prefixes_least (prefix.Lock ∷ (prefix.Repeat r1) ∷ (prefix.Repeat r2) ∷ []) few =
    not_shorter ((0xF0) ∷ (repeat_byte r2) ∷ []) ((0xF0) ∷ (repeat_byte r1) ∷ (repeat_byte r2) ∷ []) (omega arith)
prefixes_least ((prefix.Repeat r0) ∷ (prefix.Segment s1) ∷ (prefix.Segment s2) ∷ []) few =
    not_shorter ((segment_byte s2) ∷ (repeat_byte r0) ∷ []) ((repeat_byte r0) ∷ (segment_byte s1) ∷ (segment_byte s2)
    ∷ []) (omega arith)
prefixes_least ((prefix.Repeat r0) ∷ (prefix.Segment s1) ∷ prefix.Lock ∷ []) few =
    greater_first (repeat_byte r0) (segment_byte s1) ((segment_byte s1) ∷ (0xF0) ∷ []) ((0xF0) ∷ (repeat_byte r0)
    ∷ []) (repeat_after_segment r0 s1) refl
prefixes_least ((prefix.Repeat r0) ∷ (prefix.Segment s1) ∷ (prefix.Repeat r2) ∷ []) few =
    not_shorter ((segment_byte s1) ∷ (repeat_byte r2) ∷ []) ((repeat_byte r0) ∷ (segment_byte s1) ∷ (repeat_byte r2)
    ∷ []) (omega arith)
prefixes_least ((prefix.Repeat r0) ∷ prefix.Lock ∷ (prefix.Segment s2) ∷ []) few =
    greater_first (repeat_byte r0) (segment_byte s2) ((0xF0) ∷ (segment_byte s2) ∷ []) ((0xF0) ∷ (repeat_byte r0)
    ∷ []) (repeat_after_segment r0 s2) refl
prefixes_least ((prefix.Repeat r0) ∷ prefix.Lock ∷ prefix.Lock ∷ []) few =
    not_shorter ((0xF0) ∷ (repeat_byte r0) ∷ []) ((repeat_byte r0) ∷ (0xF0) ∷ (0xF0) ∷ []) (omega arith)
prefixes_least ((prefix.Repeat r0) ∷ prefix.Lock ∷ (prefix.Repeat r2) ∷ []) few =
    not_shorter ((0xF0) ∷ (repeat_byte r2) ∷ []) ((repeat_byte r0) ∷ (0xF0) ∷ (repeat_byte r2) ∷ []) (omega arith)
prefixes_least ((prefix.Repeat r0) ∷ (prefix.Repeat r1) ∷ (prefix.Segment s2) ∷ []) few =
    not_shorter ((segment_byte s2) ∷ (repeat_byte r1) ∷ []) ((repeat_byte r0) ∷ (repeat_byte r1) ∷ (segment_byte s2)
    ∷ []) (omega arith)
prefixes_least ((prefix.Repeat r0) ∷ (prefix.Repeat r1) ∷ prefix.Lock ∷ []) few =
    not_shorter ((0xF0) ∷ (repeat_byte r1) ∷ []) ((repeat_byte r0) ∷ (repeat_byte r1) ∷ (0xF0) ∷ []) (omega arith)
prefixes_least ((prefix.Repeat r0) ∷ (prefix.Repeat r1) ∷ (prefix.Repeat r2) ∷ []) few =
    not_shorter ((repeat_byte r2) ∷ []) ((repeat_byte r0) ∷ (repeat_byte r1) ∷ (repeat_byte r2) ∷ []) (omega arith)
prefixes_least (x ∷ y ∷ z ∷ w ∷ xs) few = let p = kept no_prefix (x ∷ y ∷ z ∷ w ∷ xs) in let n =
    three_by p.segment p.lock p.repeat in not_shorter (map prefix_byte (prefix_list p)) (map prefix_byte (x ∷ y ∷ z ∷ w
    ∷ xs)) (omega arith)
