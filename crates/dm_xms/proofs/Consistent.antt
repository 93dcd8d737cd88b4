-- Each call keeps the tables and the memory consistent.
use Rattle.std.proofs.Common.{◌≡◌, ◌≢◌, ℕ, zero, suc, ◌+◌, ◌-◌, ◌*◌, ◌%◌, ◌<◌, ◌==◌, Bool, true, false, cond, List, [], ◌∷◌, ◌++◌, Option, Some, None, length, get_or, set, position, replicate, refl, sym, ◌∙◌, ap, subst, inl, inr, arith}
use Rattle.std.specs.Prelude.{Result, Ok, Err, IfSome, is_none, nat_lt, remove, ◌||◌}
use Rattle.std.proofs.Math.Bool.{true≢false}
use Rattle.std.proofs.lemmas.Bool.{cases_eq}
use Rattle.std.proofs.lemmas.List.{get_or-set_same, get_or-set_other, length-set, length-replicate, length-append, length-take-le}
use Rattle.std.proofs.lemmas.List.Quantifiers.{position-Some}
use Rattle.std.proofs.lemmas.Option.{none-some, same_Some}
use Rattle.dm_pool.specs.declared.extent.Extent.{Extent}
use Rattle.dm_pool.specs.Gaps.{first_empty, lowest}
use Rattle.dm_pool.specs.Blocks.{Blocks, IsLive, taken, placed, without, resized, at_base, resized_from, new_base, with_block, zeros, fitted, no_blocks}
use Rattle.dm_pool.specs.FreeList.{AreBased}
use Rattle.dm_pool.proofs.Blocks.{vacant, no_place}
use Rattle.dm_pool.proofs.Coming.{taken_based, without_based, resized_based}
use Rattle.dm_space.specs.Memory.{Memory, with_blocks, with_a20}
use Rattle.dm_space.specs.Places.{IsShaped}
use Rattle.dm_space.specs.Unseen.{shows}
use Rattle.dm_xms.specs.declared.status.Status.{Status}
use Rattle.dm_xms.specs.declared.tables.Handle.{Handle}
use Rattle.dm_xms.specs.Tables.{Tables, Extended, extended}
use Rattle.dm_xms.specs.Calls.{state_after, need, slot, with_slot}
use Rattle.dm_xms.specs.declared.status.Status.TheVariants.{LineError, AreaTaken, AreaNotTaken, LineStillOn, NoMemory, NoHandleLeft, UnknownHandle, UnknownSource, PastSource, UnknownDestination, PastDestination, BadLength, NotLocked, Locked, TooManyLocks}
use Rattle.dm_xms.specs.Area.{take_area, release_area}
use Rattle.dm_xms.specs.declared.tables.Upper.{Upper}
use Rattle.dm_xms.specs.declared.uppers.UpperRefusal.TheVariants as refusal
use Rattle.dm_xms.specs.Uppers.{first_segment, at_least_one, largest_upper, lowest_upper, inserted, with_uppers, new_upper, begins_at, room, request_upper, release_upper, resize_upper}
use Rattle.dm_xms.specs.Line.{is_on, switched, enable_globally, disable_globally, enable_locally, disable_locally}
use Rattle.dm_space.specs.moves.Spans as regions
use Rattle.dm_space.proofs.moves.Shapes.{moves_keep}
use Rattle.dm_xms.specs.declared.moves.Side.{Side}
use Rattle.dm_xms.specs.Moves.{and_then, double_after, described, side, move_between, move_memory}
use Rattle.dm_xms.specs.Blocks.{leaving, allocate, deallocate, lock, unlock, reallocate}
use Rattle.dm_xms.specs.inner.Laws.{StartIsConsistent, CallsKeepConsistency, WritesKeepConsistency}
use Rattle.dm_xms.specs.Consistent.{IsExtended, handle_at, IsConsistent}
use Rattle.dm_xms.specs.inner.Consistent.{HasOther}

-- ---- the pool changes at one block

-- t is s but for the block i
pub record IsChanged (s t : Blocks) (i : ℕ) : Type 0 where
  pub others : (j : ℕ) → j ≢ i → get_or t.places j None ≡ get_or s.places j None
  pub kept : (j : ℕ) → j ≢ i → get_or t.contents j [] ≡ get_or s.contents j []
  pub places : length t.places ≡ length s.places
  pub contents : length t.contents ≡ length s.contents

pub changed_block : (s : Blocks) (i : ℕ) (b : Option Extent) (xs : List ℕ) →
    IsChanged s (record { units = s.units; places = set s.places i b; contents = set s.contents i xs }) i
changed_block s i b xs = record {
  others = λ j ne. get_or-set_other s.places i j b None ne;
  kept = λ j ne. get_or-set_other s.contents i j xs [] ne;
  places = length-set s.places i b;
  contents = length-set s.contents i xs;
}

pub live_stays : (s t : Blocks) (i j : ℕ) → IsChanged s t i → j ≢ i → IsLive s j → IsLive t j
live_stays s t i j c ne l = (l.0, (l.1.0, c.others j ne ∙ l.1.1))

stays : (m : Memory) (t : Blocks) (i : ℕ) (h : Handle) → IsChanged m.blocks t i → h.block ≢ i → IsExtended m h →
    IsExtended (with_blocks m t) h
stays m t i h c ne e = record {
  live = live_stays m.blocks t i h.block c ne e.live;
  size = ap length (c.kept h.block ne) ∙ e.size;
  hidden = e.hidden;
}

-- ---- a handle and its block change together

pub if_handle : (o : Option Handle) (P Q : Handle → Type 0) → ((h : Handle) → P h → Q h) → IfSome o P → IfSome o Q
if_handle None P Q f p = tt
if_handle (Some h) P Q f p = f h p

-- what the slot k holds from now on has the block i
abbrev pub HasBlock : Memory → Blocks → ℕ → Option Handle → Type 0
HasBlock m t i o = IfSome o (λ h. (h.block ≡ i) × IsExtended (with_blocks m t) h)

pub record IsTurn (x : Extended) (k i : ℕ) (new : Option Handle) (t : Blocks) : Type 0 where
  pub within : k < length x.xms.handles
  pub changed : IsChanged x.memory.blocks t i
  pub others : (j : ℕ) → j ≢ k → IfSome (handle_at x.xms.handles j) (λ h. h.block ≢ i)
  pub new_block : HasBlock x.memory t i new
  pub hidden : shows x.memory.windows i ≡ false
  pub based : AreBased t.places

abbrev pub turned : Extended → ℕ → Option Handle → Blocks → Extended
turned x k new t = record { xms = record x.xms { handles = set x.xms.handles k new }; memory = with_blocks x.memory t }

pub set_at : (x : Extended) (k : ℕ) (new : Option Handle) → k < length x.xms.handles →
    handle_at (set x.xms.handles k new) k ≡ new
set_at x k new h = get_or-set_same x.xms.handles k new None h

pub set_beside : (x : Extended) (k j : ℕ) (new : Option Handle) → j ≢ k → handle_at (set x.xms.handles k new) j
    ≡ handle_at x.xms.handles j
set_beside x k j new ne = get_or-set_other x.xms.handles k j new None ne

both_hold : (o : Option Handle) (P Q R : Handle → Type 0) → ((h : Handle) → P h → Q h → R h) → IfSome o P → IfSome o Q →
    IfSome o R
both_hold None P Q R f p q = tt
both_hold (Some h) P Q R f p q = f h p q

blocks_turned : (x : Extended) (k i : ℕ) (new : Option Handle) (t : Blocks) → IsConsistent x → IsTurn x k i new t →
    (j : ℕ) → IfSome (handle_at (set x.xms.handles k new) j) (IsExtended (with_blocks x.memory t))
blocks_turned x k i new t l u j = elim (cases_eq j k) [
  | inl e ↦
      let at : handle_at (set x.xms.handles k new) j ≡ new = ap (handle_at (set x.xms.handles k new)) e
      ∙ set_at x k new u.within in
      let P : Option Handle → Type 0 = λ o. IfSome o (IsExtended (with_blocks x.memory t)) in
      subst P (sym at) (if_handle new _ _ (λ h p. p.1) u.new_block)
  | inr ne ↦
      let P : Option Handle → Type 0 = λ o. IfSome o (IsExtended (with_blocks x.memory t)) in
      subst P (sym (set_beside x k j new ne)) (both_hold (handle_at x.xms.handles j) _ _ _
      (λ h p q. stays x.memory t i h u.changed p q) (u.others j ne) (l.blocks j))
]

other_way : (o n : Option Handle) (i : ℕ) (m : Memory) (t : Blocks) → IfSome o (λ h. h.block ≢ i) → HasBlock m t i n →
    IfSome o (λ h. HasOther h n)
other_way None n i m t p q = tt
other_way (Some h) None i m t p q = tt
other_way (Some h) (Some g) i m t p q = λ e. p (sym e ∙ q.0)

this_way : (n o : Option Handle) (i : ℕ) (m : Memory) (t : Blocks) → HasBlock m t i n → IfSome o (λ h. h.block ≢ i) →
    IfSome n (λ h. HasOther h o)
this_way None o i m t q p = tt
this_way (Some g) None i m t q p = tt
this_way (Some g) (Some h) i m t q p = λ e. p (e ∙ q.0)

apart_turned : (x : Extended) (k i : ℕ) (new : Option Handle) (t : Blocks) → IsConsistent x → IsTurn x k i new t →
    (j n : ℕ) → j ≢ n → IfSome (handle_at (set x.xms.handles k new) j) (λ h. HasOther h
    (handle_at (set x.xms.handles k new) n))
apart_turned x k i new t l u j n ne =
    let hs = set x.xms.handles k new in
    let Two : Option Handle → Option Handle → Type 0 = λ a b. IfSome a (λ h. HasOther h b) in
    elim (cases_eq j k) [
      | inl e ↦
          let at : handle_at hs j ≡ new = ap (handle_at hs) e ∙ set_at x k new u.within in
          let beside : n ≢ k = λ f. ne (e ∙ sym f) in
          subst (λ a. Two a (handle_at hs n)) (sym at) (subst (λ b. Two new b) (sym (set_beside x k n new beside))
          (this_way new (handle_at x.xms.handles n) i x.memory t u.new_block (u.others n beside)))
      | inr f ↦ elim (cases_eq n k) [
        | inl e ↦
            let at : handle_at hs n ≡ new = ap (handle_at hs) e ∙ set_at x k new u.within in
            subst (λ b. Two (handle_at hs j) b) (sym at) (subst (λ a. Two a new) (sym (set_beside x k j new f))
            (other_way (handle_at x.xms.handles j) new i x.memory t (u.others j f) u.new_block))
        | inr g ↦ subst (λ b. Two (handle_at hs j) b) (sym (set_beside x k n new g))
            (subst (λ a. Two a (handle_at x.xms.handles n)) (sym (set_beside x k j new f)) (l.apart j n ne))
      ]
    ]

shown_turned : (x : Extended) (t : Blocks) (i : ℕ) → IsConsistent x → IsChanged x.memory.blocks t i →
    shows x.memory.windows i ≡ false → (b : ℕ) → shows x.memory.windows b ≡ true → IsLive t b
shown_turned x t i l c hidden b s = live_stays x.memory.blocks t i b c (λ e. true≢false (sym s
    ∙ ap (shows x.memory.windows) e ∙ hidden)) (l.shown b s)

turn_consistent : (x : Extended) (k i : ℕ) (new : Option Handle) (t : Blocks) → IsConsistent x → IsTurn x k i new t →
    IsConsistent (turned x k new t)
turn_consistent x k i new t l u = record {
  places = u.changed.places ∙ l.places;
  contents = u.changed.contents ∙ l.contents;
  based = u.based;
  handles = length-set x.xms.handles k new ∙ l.handles;
  blocks = blocks_turned x k i new t l u;
  apart = apart_turned x k i new t l u;
  shown = shown_turned x t i l u.changed u.hidden;
  line = l.line;
}

-- ---- calls

pub record Keeps {A : Type 0} (x : Extended) (r : Result (A × Extended) Status) : Type 0 where
  pub kept : IsConsistent (state_after x r)

if_keeps : {A : Type 0} (x : Extended) (b : Bool) (r s : Result (A × Extended) Status) → Keeps x r → Keeps x s →
    Keeps x (cond b r s)
if_keeps x true r s p q = p
if_keeps x false r s p q = q

need_keeps : {A B : Type 0} (x : Extended) (o : Option A) (e : Status) (f : A → Result (B × Extended) Status) →
    IsConsistent x → ((v : A) → o ≡ Some v → Keeps x (f v)) → Keeps x (need o e f)
need_keeps x None e f l h = record { kept = l }
need_keeps x (Some v) e f l h = h v refl

refused : {A : Type 0} (x : Extended) (e : Status) → IsConsistent x → Keeps {A = A} x (Err e)
refused x e l = record { kept = l }

-- ---- calls that change the tables alone

pub record KeepsTables {A E : Type 0} (x : Extended) (r : Result (A × Tables) E) : Type 0 where
  pub kept : IsConsistent (extended (state_after x.xms r) x.memory)

if_tables : {A E : Type 0} (x : Extended) (b : Bool) (r s : Result (A × Tables) E) → KeepsTables x r → KeepsTables x s →
    KeepsTables x (cond b r s)
if_tables x true r s p q = p
if_tables x false r s p q = q

need_tables : {A B E : Type 0} (x : Extended) (o : Option A) (e : E) (f : A → Result (B × Tables) E) → IsConsistent x →
    ((v : A) → o ≡ Some v → KeepsTables x (f v)) → KeepsTables x (need o e f)
need_tables x None e f l h = record { kept = l }
need_tables x (Some v) e f l h = h v refl

refused_tables : {A E : Type 0} (x : Extended) (e : E) → IsConsistent x → KeepsTables {A = A} x (Err e)
refused_tables x e l = record { kept = l }

-- ---- the high memory area and upper memory

with_area : (x : Extended) (b : Bool) → IsConsistent x → IsConsistent (extended (record x.xms { area = b }) x.memory)
with_area x b l = record {
  places = l.places;
  contents = l.contents;
  based = l.based;
  handles = l.handles;
  blocks = l.blocks;
  apart = l.apart;
  shown = l.shown;
  line = l.line;
}

with_blocks_above : (x : Extended) (us : List Upper) → IsConsistent x →
    IsConsistent (extended (with_uppers x.xms us) x.memory)
with_blocks_above x us l = record {
  places = l.places;
  contents = l.contents;
  based = l.based;
  handles = l.handles;
  blocks = l.blocks;
  apart = l.apart;
  shown = l.shown;
  line = l.line;
}

take_keeps : (x : Extended) → IsConsistent x → KeepsTables x (take_area x.xms)
unfolding take_area
take_keeps x l = if_tables x x.xms.area (Err AreaTaken) _ (refused_tables x AreaTaken l)
    (record { kept = with_area x true l })

release_keeps : (x : Extended) → IsConsistent x → KeepsTables x (release_area x.xms)
unfolding release_area
release_keeps x l = if_tables x x.xms.area _ (Err AreaNotTaken) (record { kept = with_area x false l })
    (refused_tables x AreaNotTaken l)

new_keeps : (x : Extended) (n : ℕ) (o : Option ℕ) → IsConsistent x → KeepsTables x (new_upper x.xms n o)
new_keeps x n None l = refused_tables x (refusal.Smaller (largest_upper x.xms.uppers)) l
new_keeps x n (Some p) l = record {
  kept = with_blocks_above x (inserted (record {
    segment = first_segment + p;
    paragraphs = n;
  }) x.xms.uppers) l;
}

request_keeps : (x : Extended) (n : ℕ) → IsConsistent x → KeepsTables x (request_upper x.xms n)
unfolding request_upper
request_keeps x n l =
    if_tables x ((length x.xms.uppers == 64) || (largest_upper x.xms.uppers == 0)) (Err refusal.NoneFree) _
    (refused_tables x refusal.NoneFree l)
    (new_keeps x (at_least_one n) (lowest_upper x.xms.uppers (at_least_one n)) l)

release_upper_keeps : (x : Extended) (segment : ℕ) → IsConsistent x → KeepsTables x (release_upper x.xms segment)
unfolding release_upper
release_upper_keeps x segment l =
    need_tables x (position (begins_at segment) x.xms.uppers) refusal.Unknown _ l (λ k e.
    record { kept = with_blocks_above x (remove x.xms.uppers k) l })

resize_upper_keeps : (x : Extended) (segment n : ℕ) → IsConsistent x → KeepsTables x (resize_upper x.xms segment n)
unfolding resize_upper
resize_upper_keeps x segment n l =
    need_tables x (position (begins_at segment) x.xms.uppers) refusal.Unknown _ l (λ k e.
    if_tables x (nat_lt (room x.xms.uppers k segment) (at_least_one n))
    (Err (refusal.Smaller (room x.xms.uppers k segment))) _
    (refused_tables x (refusal.Smaller (room x.xms.uppers k segment)) l)
    (record {
      kept = with_blocks_above x (set x.xms.uppers k (record {
        segment = segment;
        paragraphs = at_least_one n;
      })) l;
    }))

-- ---- handles in use

slot_cases : (hs : List (Option Handle)) (n : ℕ) (b : Bool) (s : Handle) → cond b None (handle_at hs (n - 1)) ≡ Some s →
    handle_at hs (n - 1) ≡ Some s
slot_cases hs n true s e = absurd (none-some s e)
slot_cases hs n false s e = e

pub slot_at : (xms : Tables) (n : ℕ) (s : Handle) → slot xms n ≡ Some s → handle_at xms.handles (n - 1) ≡ Some s
slot_at xms n s e = slot_cases xms.handles n (n == 0) s e

pub there_at : (hs : List (Option Handle)) (k : ℕ) (s : Handle) → handle_at hs k ≡ Some s → k < length hs
there_at [] k s e = absurd (none-some s e)
there_at (h ∷ hs) zero s e = omega arith
there_at (h ∷ hs) (suc k) s e = omega (arith, there_at hs k s e)

extended_at : (x : Extended) (k : ℕ) (s : Handle) → IsConsistent x → handle_at x.xms.handles k ≡ Some s →
    IsExtended x.memory s
extended_at x k s l e = subst (λ (o : Option Handle). IfSome o (IsExtended x.memory)) e (l.blocks k)

-- the blocks of the other handles are others
others_at : (x : Extended) (k : ℕ) (s : Handle) → IsConsistent x → handle_at x.xms.handles k ≡ Some s → (j : ℕ) →
    j ≢ k → IfSome (handle_at x.xms.handles j) (λ h. h.block ≢ s.block)
others_at x k s l e j ne = subst (λ (o : Option Handle). IfSome o (λ a. HasOther a (handle_at x.xms.handles j))) e
    (l.apart k j (λ f. ne (sym f)))

-- ---- a block comes

pub record IsNew (s : Blocks) (u i : ℕ) (t : Blocks) : Type 0 where
  pub free : get_or s.places i None ≡ None
  pub within : i < length s.places
  pub place : Extent
  pub at : get_or t.places i None ≡ Some place
  pub bytes : i < length s.contents → get_or t.contents i [] ≡ zeros u
  pub changed : IsChanged s t i

new_block : (s : Blocks) (u i : ℕ) (b : Extent) → (i < length s.places) × (get_or s.places i None ≡ None) →
    IsNew s u i (with_block s i b (zeros u))
new_block s u i b v = record {
  free = v.1;
  within = v.0;
  place = b;
  at = get_or-set_same s.places i (Some b) None v.0;
  bytes = get_or-set_same s.contents i (zeros u) [];
  changed = changed_block s i (Some b) (zeros u);
}

placed_new : (s : Blocks) (u : ℕ) (o p : Option ℕ) (i : ℕ) (t : Blocks) → first_empty s.places ≡ o →
    placed s u o p ≡ Some (i, t) → IsNew s u i t
placed_new s u None p i t e h = absurd (none-some (i, t) h)
placed_new s u (Some k) None i t e h = absurd (none-some (i, t) h)
placed_new s u (Some k) (Some p) i t e h =
    let new : Blocks = with_block s k (record { base = p; units = u }) (zeros u) in
    let same = same_Some (k, new) (i, t) h in
    subst (λ (x : ℕ × Blocks). IsNew s u x.0 x.1) same (new_block s u k (record { base = p; units = u })
    (vacant s.places k e))

pub taken_new : (s : Blocks) (u i : ℕ) (t : Blocks) → taken s u ≡ Some (i, t) → IsNew s u i t
taken_new s u i t h = placed_new s u (first_empty s.places) (lowest s.places s.units u) i t refl h

pub not_live : (s : Blocks) (i : ℕ) → get_or s.places i None ≡ None → IsLive s i → ⊥
not_live s i free live = none-some live.1.0 (sym free ∙ live.1.1)

not_shown : (x : Extended) (i : ℕ) (b : Bool) → shows x.memory.windows i ≡ b → IsConsistent x →
    get_or x.memory.blocks.places i None ≡ None → shows x.memory.windows i ≡ false
not_shown x i true e l free = absurd (not_live x.memory.blocks i free (l.shown i e))
not_shown x i false e l free = e

comes : (x : Extended) (k kib i : ℕ) (t : Blocks) → IsConsistent x → k < length x.xms.handles → AreBased t.places →
    IsNew x.memory.blocks kib i t → IsTurn x k i (Some (record { block = i; kib = kib; locks = 0 })) t
comes x k kib i t l within based n =
    let hidden = not_shown x i (shows x.memory.windows i) refl l n.free in
    record {
      within = within;
      changed = n.changed;
      others = λ j ne. if_handle (handle_at x.xms.handles j) (IsExtended x.memory) (λ h. h.block ≢ i)
          (λ h p f. not_live x.memory.blocks i n.free (subst (IsLive x.memory.blocks) f p.live)) (l.blocks j);
      new_block = (
        refl,
        record {
          live = (omega (arith, n.within, l.places), (n.place, n.at));
          size = ap length (n.bytes (omega (arith, n.within, l.places, l.contents))) ∙ length-replicate (kib * 1024) 0
              ∙ omega arith;
          hidden = hidden;
        },
      );
      hidden = hidden;
      based = based;
    }

-- a free handle and a new block are consistent with the rest
pub allocated : (x : Extended) (kib k : ℕ) (p : ℕ × Blocks) → IsConsistent x → position is_none x.xms.handles ≡ Some k →
    taken x.memory.blocks kib ≡ Some p
    → IsConsistent (leaving x (with_slot x.xms (k + 1) (Some (record { block = p.0; kib = kib; locks = 0 }))) p.1)
allocated x kib k p l at is =
    let h : Option Handle = Some (record { block = p.0; kib = kib; locks = 0 }) in
    let there = position-Some is_none x.xms.handles k None at in
    let same : k ≡ k + 1 - 1 = omega arith in
    let made : IsConsistent (turned x k h p.1) = turn_consistent x k p.0 h p.1 l (comes x k kib p.0 p.1 l there.0
    (taken_based x.memory.blocks kib p.0 p.1 is l.based) (taken_new x.memory.blocks kib p.0 p.1 is)) in
    subst (λ j. IsConsistent (turned x j h p.1)) same made

allocate_keeps : (x : Extended) (kib : ℕ) → IsConsistent x → Keeps x (allocate x kib)
unfolding allocate
allocate_keeps x kib l =
    need_keeps x (position is_none x.xms.handles) NoHandleLeft _ l (λ k at.
    need_keeps x (taken x.memory.blocks kib) NoMemory _ l (λ p is. record { kept = allocated x kib k p l at is }))

-- ---- a block goes

goes : (x : Extended) (k : ℕ) (s : Handle) → IsConsistent x → handle_at x.xms.handles k ≡ Some s →
    IsTurn x k s.block None (without x.memory.blocks s.block)
goes x k s l e = record {
  within = there_at x.xms.handles k s e;
  changed = changed_block x.memory.blocks s.block None [];
  others = others_at x k s l e;
  new_block = tt;
  hidden = (extended_at x k s l e).hidden;
  based = without_based x.memory.blocks s.block l.based;
}

deallocate_keeps : (x : Extended) (n : ℕ) → IsConsistent x → Keeps x (deallocate x n)
unfolding deallocate
deallocate_keeps x n l =
    need_keeps x (slot x.xms n) UnknownHandle _ l (λ s e.
    if_keeps x (nat_lt 0 s.locks) (Err Locked) _ (refused x Locked l)
    (let at = slot_at x.xms n s e in
    record {
      kept = turn_consistent x (n - 1) s.block None (without x.memory.blocks s.block) l (goes x
          (n - 1) s l at);
    }))

-- ---- locks

pub same_pool : (s : Blocks) (i : ℕ) → IsChanged s s i
same_pool s i = record { others = λ j ne. refl; kept = λ j ne. refl; places = refl; contents = refl }

locks_change : (x : Extended) (k locks : ℕ) (s : Handle) → IsConsistent x → handle_at x.xms.handles k ≡ Some s →
    IsConsistent (turned x k (Some (record s { locks = locks })) x.memory.blocks)
locks_change x k locks s l e =
    let old = extended_at x k s l e in
    turn_consistent x k s.block (Some (record s { locks = locks })) x.memory.blocks l (record {
      within = there_at x.xms.handles k s e;
      changed = same_pool x.memory.blocks s.block;
      others = others_at x k s l e;
      new_block = (refl, record { live = old.live; size = old.size; hidden = old.hidden });
      hidden = old.hidden;
      based = l.based;
    })

lock_keeps : (x : Extended) (n : ℕ) → IsConsistent x → Keeps x (lock x n)
unfolding lock
lock_keeps x n l =
    need_keeps x (slot x.xms n) UnknownHandle _ l (λ s e.
    if_keeps x (s.locks == 255) (Err TooManyLocks) _ (refused x TooManyLocks l)
    (record { kept = locks_change x (n - 1) (s.locks + 1) s l (slot_at x.xms n s e) }))

unlock_keeps : (x : Extended) (n : ℕ) → IsConsistent x → KeepsTables x (unlock x.xms n)
unfolding unlock
unlock_keeps x n l =
    need_tables x (slot x.xms n) UnknownHandle _ l (λ s e.
    if_tables x (s.locks == 0) (Err NotLocked) _ (refused_tables x NotLocked l)
    (record { kept = locks_change x (n - 1) (s.locks - 1) s l (slot_at x.xms n s e) }))

-- ---- a block gets another size

fitted_long : (xs : List ℕ) (u : ℕ) → length (fitted xs u) ≡ u * 1024
fitted_long xs u =
    let z = length-append xs (replicate (u * 1024) 0) in
    length-take-le (u * 1024) (xs ++ replicate (u * 1024) 0) (omega (arith, z, length-replicate {A = ℕ} (u * 1024) 0))

pub record IsResized (s : Blocks) (i u : ℕ) (t : Blocks) : Type 0 where
  pub place : Extent
  pub at : i < length s.places → get_or t.places i None ≡ Some place
  pub size : i < length s.contents → length (get_or t.contents i []) ≡ u * 1024
  pub changed : IsChanged s t i

at_base_sized : (s : Blocks) (i u : ℕ) (o : Option ℕ) (t : Blocks) → at_base s i u o ≡ Some t → IsResized s i u t
at_base_sized s i u None t e = absurd (none-some t e)
at_base_sized s i u (Some p) t e =
    let b : Extent = record { base = p; units = u } in
    let xs = fitted (get_or s.contents i []) u in
    let made : IsResized s i u (with_block s i b xs) = record {
      place = b;
      at = λ h. get_or-set_same s.places i (Some b) None h;
      size = λ h. ap length (get_or-set_same s.contents i xs [] h) ∙ fitted_long (get_or s.contents i []) u;
      changed = changed_block s i (Some b) xs;
    } in
    subst (IsResized s i u) (same_Some (with_block s i b xs) t e) made

pub at_sized : (s : Blocks) (i u : ℕ) (o : Option Extent) (t : Blocks) → resized_from s i u o ≡ Some t →
    IsResized s i u t
at_sized s i u None t e = absurd (none-some t e)
at_sized s i u (Some b) t e = at_base_sized s i u (new_base s i b u) t e

grows : (x : Extended) (k kib : ℕ) (s : Handle) (t : Blocks) → IsConsistent x → handle_at x.xms.handles k ≡ Some s →
    resized x.memory.blocks s.block kib ≡ Some t → IsTurn x k s.block (Some (record s { kib = kib })) t
grows x k kib s t l e r =
    let old = extended_at x k s l e in
    let z = at_sized x.memory.blocks s.block kib (get_or x.memory.blocks.places s.block None) t r in
    record {
      within = there_at x.xms.handles k s e;
      changed = z.changed;
      others = others_at x k s l e;
      new_block = (
        refl,
        record {
          live = (old.live.0, (z.place, z.at (omega (arith, old.live.0, l.places))));
          size = z.size (omega (arith, old.live.0, l.contents)) ∙ omega arith;
          hidden = old.hidden;
        },
      );
      hidden = old.hidden;
      based = resized_based x.memory.blocks s.block kib t r l.based;
    }

reallocate_keeps : (x : Extended) (n kib : ℕ) → IsConsistent x → Keeps x (reallocate x n kib)
unfolding reallocate
reallocate_keeps x n kib l =
    need_keeps x (slot x.xms n) UnknownHandle _ l (λ s e.
    if_keeps x (nat_lt 0 s.locks) (Err Locked) _ (refused x Locked l)
    (need_keeps x (resized x.memory.blocks s.block kib) NoMemory _ l (λ t r.
    record {
      kept = turn_consistent x (n - 1) s.block (Some (record s { kib = kib })) t l (grows x (n - 1) kib s t l
          (slot_at x.xms n s e) r);
    })))

-- ---- A20

switched_keeps : (x : Extended) (global : Bool) (local : ℕ) → IsConsistent x → IsConsistent (switched x global local)
switched_keeps x global local l = record {
  places = l.places;
  contents = l.contents;
  based = l.based;
  handles = l.handles;
  blocks = λ k. if_handle (handle_at x.xms.handles k) (IsExtended x.memory)
      (IsExtended (with_a20 x.memory (is_on global local))) (λ h p. record {
        live = p.live;
        size = p.size;
        hidden = p.hidden;
      }) (l.blocks k);
  apart = l.apart;
  shown = l.shown;
  line = refl;
}

enable_keeps : (x : Extended) → IsConsistent x → IsConsistent (enable_globally x)
unfolding enable_globally
enable_keeps x l = switched_keeps x true x.xms.local l

disable_keeps : (x : Extended) → IsConsistent x → IsConsistent (disable_globally x).1
unfolding disable_globally
disable_keeps x l = switched_keeps x false x.xms.local l

enabled_if : (x : Extended) (b : Bool) → IsConsistent x →
    Keeps {A = Unit {0}} x (cond b (Err LineError) (Ok (tt, switched x x.xms.global (x.xms.local + 1))))
enabled_if x true l = refused x LineError l
enabled_if x false l = record { kept = switched_keeps x x.xms.global (x.xms.local + 1) l }

enable_locally_keeps : (x : Extended) → IsConsistent x → Keeps x (enable_locally x)
unfolding enable_locally
enable_locally_keeps x l = enabled_if x (x.xms.local == 0xFFFF) l

abbrev disabled_result : Extended → Bool → Bool → (Result (Unit {0}) Status × Extended)
disabled_result x b c = cond b (Err LineError, x) (
  cond c (Err LineStillOn) (Ok tt),
  switched x x.xms.global (x.xms.local - 1),
)

disabled_if : (x : Extended) (b c : Bool) → IsConsistent x → IsConsistent (disabled_result x b c).1
disabled_if x true c l = l
disabled_if x false c l = switched_keeps x x.xms.global (x.xms.local - 1) l

disable_locally_keeps : (x : Extended) → IsConsistent x → IsConsistent (disable_locally x).1
unfolding disable_locally
disable_locally_keeps x l = disabled_if x (x.xms.local == 0) (is_on x.xms.global (x.xms.local - 1)) l

-- ---- writes

extended_kept : (m n : Memory) (h : Handle) → IsShaped m n → IsExtended m h → IsExtended n h
extended_kept m n h s p = record {
  live = (p.live.0, (p.live.1.0, ap (λ (xs : List (Option Extent)). get_or xs h.block None) s.places ∙ p.live.1.1));
  size = s.page_sizes h.block ∙ p.size;
  hidden = ap (λ (ws : List (Option ℕ)). shows ws h.block) s.windows ∙ p.hidden;
}

pub writes_keep : WritesKeepConsistency
writes_keep x m s l = record {
  places = ap length s.places ∙ l.places;
  contents = s.page_count ∙ l.contents;
  based = subst AreBased (sym s.places) l.based;
  handles = l.handles;
  blocks = λ k. if_handle (handle_at x.xms.handles k) (IsExtended x.memory) (IsExtended m)
      (λ h. extended_kept x.memory m h s) (l.blocks k);
  apart = l.apart;
  shown = λ b e. let live = l.shown b (ap (λ (ws : List (Option ℕ)). shows ws b) (sym s.windows) ∙ e) in
      (live.0, (live.1.0, ap (λ (xs : List (Option Extent)). get_or xs b None) s.places ∙ live.1.1));
  line = s.a20 ∙ l.line;
}

-- ---- moves

then_keeps : {A B : Type 0} (x : Extended) (r : Result A Status) (f : A → Result (B × Extended) Status) →
    IsConsistent x → ((v : A) → Keeps x (f v)) → Keeps x (and_then r f)
then_keeps x (Ok v) f l h = h v
then_keeps x (Err e) f l h = record { kept = l }

between_keeps : (x : Extended) (n : ℕ) (from to : Side) → IsConsistent x → Keeps x (move_between x n from to)
unfolding move_between
between_keeps x n from to l =
    if_keeps x (nat_lt from.end (from.region.start + n) || nat_lt to.end (to.region.start + n)) (Err BadLength) _
    (refused x BadLength l)
    (record {
      kept = writes_keep x (regions.span_moved x.memory from.region to.region n) (moves_keep.moving x.memory
          from.region to.region n) l;
    })

move_keeps : (x : Extended) (segment offset : ℕ) → IsConsistent x → Keeps x (move_memory x segment offset)
unfolding move_memory
move_keeps x segment offset l =
    if_keeps x (double_after x.memory segment offset 0 % 2 == 1) (Err BadLength) _ (refused x BadLength l)
    (then_keeps x (side x (described x.memory segment offset 4) UnknownSource PastSource) _ l (λ from.
    then_keeps x (side x (described x.memory segment offset 10) UnknownDestination PastDestination) _ l (λ to.
    between_keeps x (double_after x.memory segment offset 0) from to l)))

-- ---- all calls

pub calls_keep : CallsKeepConsistency
calls_keep = record {
  taking_area = λ x l. (take_keeps x l).kept;
  releasing_area = λ x l. (release_keeps x l).kept;
  enabling_globally = enable_keeps;
  disabling_globally = disable_keeps;
  enabling_locally = λ x l. (enable_locally_keeps x l).kept;
  disabling_locally = disable_locally_keeps;
  allocating = λ x kib l. (allocate_keeps x kib l).kept;
  deallocating = λ x n l. (deallocate_keeps x n l).kept;
  moving = λ x s o l. (move_keeps x s o l).kept;
  locking = λ x n l. (lock_keeps x n l).kept;
  unlocking = λ x n l. (unlock_keeps x n l).kept;
  reallocating = λ x n kib l. (reallocate_keeps x n kib l).kept;
  requesting = λ x n l. (request_keeps x n l).kept;
  releasing = λ x s l. (release_upper_keeps x s l).kept;
  resizing = λ x s n l. (resize_upper_keeps x s n l).kept;
}

-- ---- the start

pub none_used : (n k : ℕ) (P : Handle → Type 0) → IfSome (handle_at (replicate n None) k) P
none_used zero k P = tt
none_used (suc n) zero P = tt
none_used (suc n) (suc k) P = none_used n k P

sizes : (units : ℕ) → (length (no_blocks units).places ≡ 576) × (length (no_blocks units).contents ≡ 576)
unfolding no_blocks
sizes units = (length-replicate {A = Option Extent} 576 None, length-replicate {A = List ℕ} 576 [])

none_based : (units : ℕ) → AreBased (no_blocks units).places
unfolding no_blocks
none_based units i b e z = absurd (none-some b (sym (no_place 576 i) ∙ e))

pub start_consistent : StartIsConsistent
start_consistent units low = record {
  places = (sizes units).0;
  contents = (sizes units).1;
  based = none_based units;
  handles = length-replicate {A = Option Handle} 64 None;
  blocks = λ k. none_used 64 k _;
  apart = λ j k ne. none_used 64 j _;
  shown = λ b e. absurd (true≢false (sym e));
  line = refl;
}
