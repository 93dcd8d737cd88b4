-- Calls leave what is outside of extended memory.
use Rattle.std.proofs.Common.{◌≡◌, ◌≢◌, ℕ, zero, suc, ◌+◌, ◌-◌, ◌%◌, ◌<◌, ◌==◌, Bool, true, false, cond, List, [], ◌∷◌, Option, Some, None, length, get_or, set, position, refl, sym, ◌∙◌, ap, subst, inl, inr, arith}
use Rattle.std.specs.Prelude.{Result, Ok, Err, IfSome, is_none, nat_lt, ◌||◌}
use Rattle.std.proofs.lemmas.Bool.{cases_eq}
use Rattle.std.proofs.lemmas.List.Quantifiers.{position-Some}
use Rattle.dm_pool.specs.declared.extent.Extent.{Extent}
use Rattle.dm_pool.specs.Blocks.{Blocks, IsLive, taken, without, resized}
use Rattle.dm_space.specs.Memory.{Memory}
use Rattle.dm_space.specs.Places.{IsShaped}
use Rattle.dm_xms.specs.declared.status.Status.{Status}
use Rattle.dm_xms.specs.declared.status.Status.TheVariants.{LineError, AreaTaken, AreaNotTaken, LineStillOn, NoMemory, NoHandleLeft, UnknownHandle, UnknownSource, PastSource, UnknownDestination, PastDestination, BadLength, NotLocked, Locked, TooManyLocks}
use Rattle.dm_xms.specs.declared.tables.Handle.{Handle}
use Rattle.dm_xms.specs.declared.uppers.UpperRefusal.TheVariants as refusal
use Rattle.dm_xms.specs.declared.moves.Side.{Side}
use Rattle.dm_xms.specs.Tables.{Tables, Extended, extended}
use Rattle.dm_xms.specs.Calls.{state_after, need, slot}
use Rattle.dm_xms.specs.Area.{take_area, release_area}
use Rattle.dm_xms.specs.Uppers.{at_least_one, largest_upper, lowest_upper, new_upper, begins_at, room, request_upper, release_upper, resize_upper}
use Rattle.dm_xms.specs.Line.{is_on, switched, enable_globally, disable_globally, enable_locally, disable_locally}
use Rattle.dm_xms.specs.Moves.{and_then, double_after, described, side, move_between, move_memory}
use Rattle.dm_xms.specs.Blocks.{allocate, deallocate, lock, unlock, reallocate}
use Rattle.dm_xms.specs.Consistent.{handle_at}
use Rattle.dm_xms.specs.inner.Outside.{IsOutside, LeavesOutside}
use Rattle.dm_xms.specs.inner.Laws.{CallsLeaveOutside}
use Rattle.dm_space.specs.moves.Spans as regions
use Rattle.dm_space.proofs.moves.Shapes.{moves_keep}
use Rattle.dm_xms.proofs.Consistent.{IsChanged, changed_block, live_stays, if_handle, turned, set_at, set_beside, slot_at, there_at, taken_new, not_live, same_pool, at_sized}

pub leaves_all : (x : Extended) → LeavesOutside x x
leaves_all x = record { blocks = λ b n o. o; others = λ b live none. (live, none); windows = refl }

-- the same handles, and the same pool
leaves_tables : (x : Extended) (xms : Tables) → xms.handles ≡ x.xms.handles → LeavesOutside x (extended xms x.memory)
leaves_tables x xms e = record {
  blocks = λ b n o. record {
    live = o.live;
    size = o.size;
    apart = λ k. subst (λ (hs : List (Option Handle)). IfSome (handle_at hs k) (λ h. h.block ≢ b)) (sym e) (o.apart
        k);
  };
  others = λ b live none. (
    live,
    λ k. subst (λ (hs : List (Option Handle)). IfSome (handle_at hs k)
        (λ h. h.block ≢ b)) e (none k),
  );
  windows = refl;
}

-- a memory of the same map
pub leaves_shaped : (x : Extended) (m : Memory) → IsShaped x.memory m → LeavesOutside x (extended x.xms m)
leaves_shaped x m s = record {
  blocks = λ b n o. record {
    live = (o.live.0, (o.live.1.0, ap (λ (xs : List (Option Extent)). get_or xs b None) s.places ∙ o.live.1.1));
    size = s.page_sizes b ∙ o.size;
    apart = o.apart;
  };
  others = λ b live none. (
    (
      live.0,
      (
        live.1.0,
        ap (λ (xs : List (Option Extent)). get_or xs b None) (sym s.places)
            ∙ live.1.1,
      ),
    ),
    none,
  );
  windows = s.windows;
}

-- ---- a handle and its block change together

-- the pool changes at the block i, which the slot k had, if any, and has from now on, or which is gone; it is not
-- outside
record IsChange (x : Extended) (k i : ℕ) (new : Option Handle) (t : Blocks) : Type 0 where
  pub within : k < length x.xms.handles
  pub changed : IsChanged x.memory.blocks t i
  pub old : IfSome (handle_at x.xms.handles k) (λ h. h.block ≡ i)
  pub same : IfSome new (λ h. h.block ≡ i)
  pub gone : new ≡ None → get_or t.places i None ≡ None
  pub inside : (b size : ℕ) → IsOutside x b size → i ≢ b

-- a block that is there and is not the new handle's is another one
other_block : (t : Blocks) (i b : ℕ) (new : Option Handle) → IfSome new (λ h. h.block ≡ i) →
    (new ≡ None → get_or t.places i None ≡ None) → IsLive t b → IfSome new (λ h. h.block ≢ b) → b ≢ i
other_block t i b None same gone live ne e = not_live t i (gone refl) (subst (IsLive t) e live)
other_block t i b (Some h) same gone live ne e = ne (same ∙ sym e)

was_live : (s t : Blocks) (i b : ℕ) → IsChanged s t i → b ≢ i → IsLive t b → IsLive s b
was_live s t i b c ne live = (live.0, (live.1.0, sym (c.others b ne) ∙ live.1.1))

none_before : (x : Extended) (k i b : ℕ) (new : Option Handle) → IfSome (handle_at x.xms.handles k) (λ h. h.block ≡ i) →
    b ≢ i → ((j : ℕ) → IfSome (handle_at (set x.xms.handles k new) j) (λ h. h.block ≢ b))
    → (j : ℕ) → IfSome (handle_at x.xms.handles j) (λ h. h.block ≢ b)
none_before x k i b new old ne none j =
    let P : Option Handle → Type 0 = λ o. IfSome o (λ h. h.block ≢ b) in
    elim (cases_eq j k) [
      | inl e ↦ subst P (sym (ap (handle_at x.xms.handles) e)) (if_handle (handle_at x.xms.handles k) (λ h. h.block
          ≡ i) (λ h. h.block ≢ b) (λ h p q. ne (sym q ∙ p)) old)
      | inr f ↦ subst P (set_beside x k j new f) (none j)
    ]

still_apart : (x : Extended) (k i b : ℕ) (new : Option Handle) → k < length x.xms.handles →
    IfSome new (λ h. h.block ≡ i) → i ≢ b → ((j : ℕ) → IfSome (handle_at x.xms.handles j) (λ h. h.block ≢ b))
    → (j : ℕ) → IfSome (handle_at (set x.xms.handles k new) j) (λ h. h.block ≢ b)
still_apart x k i b new within same ne apart j =
    let P : Option Handle → Type 0 = λ o. IfSome o (λ h. h.block ≢ b) in
    elim (cases_eq j k) [
      | inl e ↦
          subst P (sym (ap (handle_at (set x.xms.handles k new)) e ∙ set_at x k new within))
          (if_handle new (λ h. h.block ≡ i) (λ h. h.block ≢ b) (λ h p q. ne (sym p ∙ q)) same)
      | inr f ↦ subst P (sym (set_beside x k j new f)) (apart j)
    ]

change_leaves : (x : Extended) (k i : ℕ) (new : Option Handle) (t : Blocks) → IsChange x k i new t →
    LeavesOutside x (turned x k new t)
change_leaves x k i new t c = record {
  blocks = λ b size o.
      let ne = c.inside b size o in
      let other : b ≢ i = λ e. ne (sym e) in
      record {
        live = live_stays x.memory.blocks t i b c.changed other o.live;
        size = ap length (c.changed.kept b other) ∙ o.size;
        apart = still_apart x k i b new c.within c.same ne o.apart;
      };
  others = λ b live none.
      let P : Option Handle → Type 0 = λ o. IfSome o (λ h. h.block ≢ b) in
      let ne = other_block t i b new c.same c.gone live (subst P (set_at x k new c.within) (none k)) in
      (was_live x.memory.blocks t i b c.changed ne live, none_before x k i b new c.old ne none);
  windows = refl;
}

-- the block of a handle is not outside
handled : (x : Extended) (k : ℕ) (s : Handle) → handle_at x.xms.handles k ≡ Some s → (b size : ℕ) → IsOutside x b size →
    s.block ≢ b
handled x k s e b size o = subst (λ (t : Option Handle). IfSome t (λ h. h.block ≢ b)) e (o.apart k)

its_block : (x : Extended) (k : ℕ) (s : Handle) → handle_at x.xms.handles k ≡ Some s →
    IfSome (handle_at x.xms.handles k) (λ h. h.block ≡ s.block)
its_block x k s e = subst (λ (t : Option Handle). IfSome t (λ h. h.block ≡ s.block)) (sym e) refl

if_none : (o : Option Handle) (i : ℕ) → is_none o ≡ true → IfSome o (λ h. h.block ≡ i)
if_none None i e = tt
if_none (Some h) i e = cc

no_block : (ps : List (Option Extent)) (i : ℕ) → get_or (set ps i None) i None ≡ None
no_block [] i = refl
no_block (p ∷ ps) zero = refl
no_block (p ∷ ps) (suc i) = no_block ps i

-- ---- calls

record Leaves {A E : Type 0} (x : Extended) (r : Result (A × Extended) E) : Type 0 where
  pub kept : LeavesOutside x (state_after x r)

if_leaves : {A E : Type 0} (x : Extended) (b : Bool) (r s : Result (A × Extended) E) → Leaves x r → Leaves x s →
    Leaves x (cond b r s)
if_leaves x true r s p q = p
if_leaves x false r s p q = q

need_leaves : {A B E : Type 0} (x : Extended) (o : Option A) (e : E) (f : A → Result (B × Extended) E) →
    ((v : A) → o ≡ Some v → Leaves x (f v)) → Leaves x (need o e f)
need_leaves x None e f h = record { kept = leaves_all x }
need_leaves x (Some v) e f h = h v refl

then_leaves : {A B E : Type 0} (x : Extended) (r : Result A E) (f : A → Result (B × Extended) E) →
    ((v : A) → Leaves x (f v)) → Leaves x (and_then r f)
then_leaves x (Ok v) f h = h v
then_leaves x (Err e) f h = record { kept = leaves_all x }

refused : {A E : Type 0} (x : Extended) (e : E) → Leaves {A = A} x (Err e)
refused x e = record { kept = leaves_all x }

-- ---- calls that change the tables alone

record LeavesTables {A E : Type 0} (xms : Tables) (r : Result (A × Tables) E) : Type 0 where
  pub kept : (state_after xms r).handles ≡ xms.handles

if_tables : {A E : Type 0} (xms : Tables) (b : Bool) (r s : Result (A × Tables) E) → LeavesTables xms r →
    LeavesTables xms s → LeavesTables xms (cond b r s)
if_tables xms true r s p q = p
if_tables xms false r s p q = q

need_tables : {A B E : Type 0} (xms : Tables) (o : Option A) (e : E) (f : A → Result (B × Tables) E) →
    ((v : A) → LeavesTables xms (f v)) → LeavesTables xms (need o e f)
need_tables xms None e f h = record { kept = refl }
need_tables xms (Some v) e f h = h v

take_leaves : (xms : Tables) → LeavesTables xms (take_area xms)
unfolding take_area
take_leaves xms = if_tables xms xms.area (Err AreaTaken) _ (record { kept = refl }) (record { kept = refl })

release_leaves : (xms : Tables) → LeavesTables xms (release_area xms)
unfolding release_area
release_leaves xms = if_tables xms xms.area _ (Err AreaNotTaken) (record { kept = refl }) (record { kept = refl })

new_leaves : (xms : Tables) (n : ℕ) (o : Option ℕ) → LeavesTables xms (new_upper xms n o)
new_leaves xms n None = record { kept = refl }
new_leaves xms n (Some p) = record { kept = refl }

request_leaves : (xms : Tables) (n : ℕ) → LeavesTables xms (request_upper xms n)
unfolding request_upper
request_leaves xms n =
    if_tables xms ((length xms.uppers == 64) || (largest_upper xms.uppers == 0)) (Err refusal.NoneFree) _
    (record { kept = refl })
    (new_leaves xms (at_least_one n) (lowest_upper xms.uppers (at_least_one n)))

release_upper_leaves : (xms : Tables) (segment : ℕ) → LeavesTables xms (release_upper xms segment)
unfolding release_upper
release_upper_leaves xms segment = need_tables xms (position (begins_at segment) xms.uppers) refusal.Unknown _
    (λ k. record { kept = refl })

resize_upper_leaves : (xms : Tables) (segment n : ℕ) → LeavesTables xms (resize_upper xms segment n)
unfolding resize_upper
resize_upper_leaves xms segment n =
    need_tables xms (position (begins_at segment) xms.uppers) refusal.Unknown _ (λ k.
    if_tables xms (nat_lt (room xms.uppers k segment) (at_least_one n))
    (Err (refusal.Smaller (room xms.uppers k segment))) _ (record { kept = refl }) (record { kept = refl }))

-- ---- blocks

allocate_leaves : (x : Extended) (kib : ℕ) → Leaves x (allocate x kib)
unfolding allocate
allocate_leaves x kib =
    need_leaves x (position is_none x.xms.handles) NoHandleLeft _ (λ k at.
    need_leaves x (taken x.memory.blocks kib) NoMemory _ (λ p is.
    let h : Option Handle = Some (record { block = p.0; kib = kib; locks = 0 }) in
    let n = taken_new x.memory.blocks kib p.0 p.1 is in
    let there = position-Some is_none x.xms.handles k None at in
    let same : k ≡ k + 1 - 1 = omega arith in
    let made : LeavesOutside x (turned x k h p.1) = change_leaves x k p.0 h p.1 (record {
      within = there.0;
      changed = n.changed;
      old = if_none (handle_at x.xms.handles k) p.0 there.1;
      same = refl;
      gone = λ e. cc;
      inside = λ b size o e. not_live x.memory.blocks p.0 n.free (subst (IsLive x.memory.blocks) (sym e) o.live);
    }) in
    record { kept = subst (λ j. LeavesOutside x (turned x j h p.1)) same made }))

deallocate_leaves : (x : Extended) (n : ℕ) → Leaves x (deallocate x n)
unfolding deallocate
deallocate_leaves x n =
    need_leaves x (slot x.xms n) UnknownHandle _ (λ s e.
    if_leaves x (nat_lt 0 s.locks) (Err Locked) _ (refused x Locked)
    (let at = slot_at x.xms n s e in
    record {
      kept = change_leaves x (n - 1) s.block None (without x.memory.blocks s.block) (record {
        within = there_at x.xms.handles (n - 1) s at;
        changed = changed_block x.memory.blocks s.block None [];
        old = its_block x (n - 1) s at;
        same = tt;
        gone = λ e. no_block x.memory.blocks.places s.block;
        inside = handled x (n - 1) s at;
      });
    }))

-- another count of locks
locks_leave : (x : Extended) (k locks : ℕ) (s : Handle) → handle_at x.xms.handles k ≡ Some s →
    LeavesOutside x (turned x k (Some (record s { locks = locks })) x.memory.blocks)
locks_leave x k locks s at = change_leaves x k s.block (Some (record s { locks = locks })) x.memory.blocks (record {
  within = there_at x.xms.handles k s at;
  changed = same_pool x.memory.blocks s.block;
  old = its_block x k s at;
  same = refl;
  gone = λ e. cc;
  inside = handled x k s at;
})

lock_leaves : (x : Extended) (n : ℕ) → Leaves x (lock x n)
unfolding lock
lock_leaves x n =
    need_leaves x (slot x.xms n) UnknownHandle _ (λ s e.
    if_leaves x (s.locks == 255) (Err TooManyLocks) _ (refused x TooManyLocks)
    (record { kept = locks_leave x (n - 1) (s.locks + 1) s (slot_at x.xms n s e) }))

unlock_if : (x : Extended) (n : ℕ) (o : Option Handle) → slot x.xms n ≡ o →
    LeavesOutside x (extended (state_after x.xms (need o UnknownHandle (λ (s : Handle).
    cond (s.locks == 0) (Err NotLocked) (Ok (
      tt {0},
      record x.xms { handles = set x.xms.handles (n - 1) (Some (record s { locks = s.locks - 1 })) },
    ))))) x.memory)
unlock_if x n None e = leaves_all x
unlock_if x n (Some s) e = either (s.locks == 0)
  where
    either : (b : Bool) → LeavesOutside x (extended (state_after x.xms (cond b (Err NotLocked) (Ok (
      tt {0},
      record x.xms { handles = set x.xms.handles (n - 1) (Some (record s { locks = s.locks - 1 })) },
    )))) x.memory)
    either true = leaves_all x
    either false = locks_leave x (n - 1) (s.locks - 1) s (slot_at x.xms n s e)

unlock_leaves : (x : Extended) (n : ℕ) → LeavesOutside x (extended (state_after x.xms (unlock x.xms n)) x.memory)
unfolding unlock
unlock_leaves x n = unlock_if x n (slot x.xms n) refl

reallocate_leaves : (x : Extended) (n kib : ℕ) → Leaves x (reallocate x n kib)
unfolding reallocate
reallocate_leaves x n kib =
    need_leaves x (slot x.xms n) UnknownHandle _ (λ s e.
    if_leaves x (nat_lt 0 s.locks) (Err Locked) _ (refused x Locked)
    (need_leaves x (resized x.memory.blocks s.block kib) NoMemory _ (λ t r.
    let at = slot_at x.xms n s e in
    let z = at_sized x.memory.blocks s.block kib (get_or x.memory.blocks.places s.block None) t r in
    record {
      kept = change_leaves x (n - 1) s.block (Some (record s { kib = kib })) t (record {
        within = there_at x.xms.handles (n - 1) s at;
        changed = z.changed;
        old = its_block x (n - 1) s at;
        same = refl;
        gone = λ e. cc;
        inside = handled x (n - 1) s at;
      });
    })))

-- ---- A20

switched_leaves : (x : Extended) (global : Bool) (local : ℕ) → LeavesOutside x (switched x global local)
switched_leaves x global local = record {
  blocks = λ b n o. record { live = o.live; size = o.size; apart = o.apart };
  others = λ b live none. (live, none);
  windows = refl;
}

enable_leaves : (x : Extended) → LeavesOutside x (enable_globally x)
unfolding enable_globally
enable_leaves x = switched_leaves x true x.xms.local

disable_leaves : (x : Extended) → LeavesOutside x (disable_globally x).1
unfolding disable_globally
disable_leaves x = switched_leaves x false x.xms.local

enabled_if : (x : Extended) (b : Bool) → Leaves {A = Unit {0}} x (cond b (Err LineError) (Ok (
  tt,
  switched x x.xms.global (x.xms.local + 1),
)))
enabled_if x true = refused x LineError
enabled_if x false = record { kept = switched_leaves x x.xms.global (x.xms.local + 1) }

enable_locally_leaves : (x : Extended) → Leaves x (enable_locally x)
unfolding enable_locally
enable_locally_leaves x = enabled_if x (x.xms.local == 0xFFFF)

abbrev disabled_result : Extended → Bool → Bool → (Result (Unit {0}) Status × Extended)
disabled_result x b c = cond b (Err LineError, x) (
  cond c (Err LineStillOn) (Ok tt),
  switched x x.xms.global (x.xms.local - 1),
)

disabled_if : (x : Extended) (b c : Bool) → LeavesOutside x (disabled_result x b c).1
disabled_if x true c = leaves_all x
disabled_if x false c = switched_leaves x x.xms.global (x.xms.local - 1)

disable_locally_leaves : (x : Extended) → LeavesOutside x (disable_locally x).1
unfolding disable_locally
disable_locally_leaves x = disabled_if x (x.xms.local == 0) (is_on x.xms.global (x.xms.local - 1))

-- ---- moves

between_leaves : (x : Extended) (n : ℕ) (from to : Side) → Leaves x (move_between x n from to)
unfolding move_between
between_leaves x n from to =
    if_leaves x (nat_lt from.end (from.region.start + n) || nat_lt to.end (to.region.start + n)) (Err BadLength) _
    (refused x BadLength)
    (record {
      kept = leaves_shaped x (regions.span_moved x.memory from.region to.region n) (moves_keep.moving x.memory
          from.region to.region n);
    })

move_leaves : (x : Extended) (segment offset : ℕ) → Leaves x (move_memory x segment offset)
unfolding move_memory
move_leaves x segment offset =
    if_leaves x (double_after x.memory segment offset 0 % 2 == 1) (Err BadLength) _ (refused x BadLength)
    (then_leaves x (side x (described x.memory segment offset 4) UnknownSource PastSource) _ (λ from.
    then_leaves x (side x (described x.memory segment offset 10) UnknownDestination PastDestination) _ (λ to.
    between_leaves x (double_after x.memory segment offset 0) from to)))

-- ---- all calls

pub calls_leave : CallsLeaveOutside
calls_leave = record {
  taking_area = λ x. leaves_tables x _ (take_leaves x.xms).kept;
  releasing_area = λ x. leaves_tables x _ (release_leaves x.xms).kept;
  enabling_globally = enable_leaves;
  disabling_globally = disable_leaves;
  enabling_locally = λ x. (enable_locally_leaves x).kept;
  disabling_locally = disable_locally_leaves;
  allocating = λ x kib. (allocate_leaves x kib).kept;
  deallocating = λ x n. (deallocate_leaves x n).kept;
  moving = λ x s o. (move_leaves x s o).kept;
  locking = λ x n. (lock_leaves x n).kept;
  unlocking = unlock_leaves;
  reallocating = λ x n kib. (reallocate_leaves x n kib).kept;
  requesting = λ x n. leaves_tables x _ (request_leaves x.xms n).kept;
  releasing = λ x s. leaves_tables x _ (release_upper_leaves x.xms s).kept;
  resizing = λ x s n. leaves_tables x _ (resize_upper_leaves x.xms s n).kept;
}
