-- Ranges of memory that a quiet instruction leaves as they are.
use Rattle.std.proofs.Common.{◌≡◌, ◌≢◌, ℕ, suc, zero, ◌+◌, ◌-◌, ◌*◌, ◌/◌, ◌%◌, ◌<◌, ◌≤◌, Bool, true, false, not, List, [], ◌∷◌, ◌++◌, Option, Some, None, refl, sym, ◌∙◌, ap, subst, add-one, arith}
use Rattle.std.specs.Prelude.{◌==◌, ◌&&◌, if◌then◌else◌, min, nat_lt, slice_index_or, All}
use Rattle.std.specs.List.{list_all}
use Rattle.std.proofs.lemmas.Bool.{false≢true, eqb-true}
use Rattle.std.proofs.lemmas.Bool.Decides.{nat_tests}
use Rattle.std.proofs.lemmas.List.Elements.{All-nil, All-cons, All-head, All-tail}
use Rattle.dm_space.specs.declared.place.Place.{Place}
use Rattle.dm_space.specs.declared.place.Place.TheVariants.{Low, Rom, Nothing}
use Rattle.dm_space.specs.Memory.{Memory, linear, place, peek, shown}
use Rattle.dm_space.specs.Memory as memory
use Rattle.dm_space.specs.Copies.{values}
use Rattle.dm_space.proofs.Places.{peek-place, place-shaped, place-low}
use Rattle.dm_ins.specs.declared.ins.Ins.{Ins}
use Rattle.dm_cpu.specs.Guest.{Guest, up}
use Rattle.dm_exec.specs.Effect.{effect}
use Rattle.dm_touches.specs.declared.elements.Element.{Element}
use Rattle.dm_touches.specs.declared.elements.Element.TheVariants as element
use Rattle.dm_touches.specs.declared.elements.Elements.{Elements}
use Rattle.dm_touches.specs.declared.elements.FarAddress.{FarAddress}
use Rattle.dm_touches.specs.Elements.{far, linear_of, byte_place, bytes_if, bytes_of}
use Rattle.dm_touches.specs.Touches.{writes}
use Rattle.dm_touches.proofs.Written.{writes_listed}
use Rattle.dm_touches.specs.quiet.Marks.{level_at, lies_below, satisfies, satisfy}
use Rattle.dm_services.specs.state.State.{State}
use Rattle.dm_debug.specs.declared.stops.events.Event.{Event}
use Rattle.dm_debug.specs.declared.stops.events.Event.TheVariants.{At, Address, Change, Call, Function}
use Rattle.dm_debug.specs.declared.stops.events.Range.{Range}
use Rattle.dm_debug.specs.stops.Events.{segment_below, byte_at, bytes_there, range_bytes, reads_as, bytes_for, has_come, first_from}
use Rattle.dm_debug.specs.stops.inner.Marking.{is_markable, HasLevel, IsGuarded, AreStill}
use Rattle.dm_debug.proofs.stops.Nearing.{and_left, and_right}

and_both : (a b : Bool) → a ≡ true → b ≡ true → (a && b) ≡ true
and_both a b e f = rw (e, f) refl

-- ---- tests of all bytes

-- whether the linear addresses of all these bytes pass the test
abbrev are_all : (ℕ → Bool) → Bool → List FarAddress → Bool
are_all is a20 [] = true
are_all is a20 (f ∷ fs) = is (linear_of a20 f) && are_all is a20 fs

all_append : (is : ℕ → Bool) (a20 : Bool) (fs gs : List FarAddress) → are_all is a20 fs ≡ true →
    are_all is a20 gs ≡ true → are_all is a20 (fs ++ gs) ≡ true
all_append is a20 [] gs e h = h
all_append is a20 (f ∷ fs) gs e h = and_both (is (linear_of a20 f)) (are_all is a20 (fs
    ++ gs)) (and_left (is (linear_of a20 f)) (are_all is a20 fs) e) (all_append is a20 fs gs
    (and_right (is (linear_of a20 f)) (are_all is a20 fs) e) h)

element_all : (is : ℕ → Bool) (a20 : Bool) (o : Option Element) → satisfies is a20 o ≡ true →
    are_all is a20 (bytes_if o) ≡ true
element_all is a20 None e = refl
element_all is a20 (Some (element.Byte s o)) e = and_both (is (linear_of a20 (far s o))) true e refl
element_all is a20 (Some (element.Word s o)) e =
    let first = is (linear_of a20 (far s o)) in
    let second = is (linear_of a20 (far s (up o 1))) in
    and_both first (second && true) (and_left first second e) (and_both second true (and_right first second e) refl)

elements_all : (is : ℕ → Bool) (a20 : Bool) (e : Elements) → satisfy is a20 e ≡ true → are_all is a20 (bytes_of e) ≡ true
elements_all is a20 e t =
    let a = satisfies is a20 e.first in
    let b = satisfies is a20 e.second in
    let c = satisfies is a20 e.third in
    let both = and_left (a && b) c t in
    all_append is a20 (bytes_if e.first ++ bytes_if e.second) (bytes_if e.third)
    (all_append is a20 (bytes_if e.first) (bytes_if e.second) (element_all is a20 e.first (and_left a b both))
    (element_all is a20 e.second (and_right a b both)))
    (element_all is a20 e.third (and_right (a && b) c t))

-- ---- an address below C0000h is its own place

low_of : Place → ℕ
low_of (Low a) = a
low_of _ = 0

low_same : (x a : ℕ) → Low x ≡ Low a → x ≡ a
unfolding low_of
low_same x a e = ap low_of e

place_by : (b c d e f g : Bool) (o : Option ℕ) (x k r a : ℕ)
    → (if b then Low x else if c then Nothing else if d then Low x else if e then shown o k else if f then Rom r else
    if g then Low x else Nothing) ≡ Low a → x ≡ a
place_by true c d e f g o x k r a h = low_same x a h
place_by false true d e f g o x k r a h = cc
place_by false false true e f g o x k r a h = low_same x a h
place_by false false false true f g None x k r a h = cc
place_by false false false true f g (Some p) x k r a h = cc
place_by false false false false true g o x k r a h = cc
place_by false false false false false true o x k r a h = low_same x a h
place_by false false false false false false o x k r a h = cc

place_is_low : (m : Memory) (x a : ℕ) → place m x ≡ Low a → x ≡ a
unfolding place
place_is_low m x a e =
    place_by (nat_lt x 0xC0000) (nat_lt x 0xD0000) (nat_lt x 0xE0000) (nat_lt x 0xF0000) (nat_lt x 0x100000)
    (nat_lt x 0x10FFF0)
    (slice_index_or m.windows ((x - 0xE0000) / 0x4000) None) x ((x - 0xE0000) % 0x4000) (x - 0xF0000) a e

not_below : (ms : List ℕ) (a : ℕ) → lies_below ms 1 a ≡ true → 1 ≤ level_at ms (a / 16) → ⊥
not_below ms a e h = (let less : level_at ms (a / 16) < 1 = grind (arith, nat_tests) in omega (arith, less, h))

none_at : (m : Memory) (ms : List ℕ) (a : ℕ) (fs : List FarAddress) → a < 0xC0000 → 1 ≤ level_at ms (a / 16) →
    are_all (lies_below ms 1) m.a20 fs ≡ true → All (λ (f : FarAddress). byte_place m f ≢ place m a) fs
none_at m ms a [] low marked e = All-nil (λ (f : FarAddress). byte_place m f ≢ place m a)
none_at m ms a (f ∷ fs) low marked e =
    let x = linear_of m.a20 f in
    let here : lies_below ms 1 x ≡ true = and_left (lies_below ms 1 x) (are_all (lies_below ms 1) m.a20 fs) e in
    let other : place m x ≢ place m a = λ same. (let is : x ≡ a = place_is_low m x a (same ∙ place-low m a low) in
    not_below ms a (subst (λ (y : ℕ). lies_below ms 1 y ≡ true) is here) marked) in
    All-cons (λ (f : FarAddress). byte_place m f ≢ place m a) f fs other (none_at m ms a fs low marked
    (and_right (lies_below ms 1 x) (are_all (lies_below ms 1) m.a20 fs) e))

-- a marked byte stays
keeps_byte : (g : Guest) (i : Ins) (k : ℕ) (ms : List ℕ) (a : ℕ) → a < 0xC0000 → 1 ≤ level_at ms (a / 16) →
    satisfy (lies_below ms 1) g.memory.a20 (writes g i k) ≡ true → peek (effect g i k).memory a ≡ peek g.memory a
keeps_byte g i k ms a low marked quiet =
    let w = writes_listed g i k in
    let m = g.memory in
    let n = (effect g i k).memory in
    let kept : memory.byte_at n (place m a) ≡ memory.byte_at m (place m a) =
    w.kept (place m a) (none_at m ms a (bytes_of (writes g i k)) low marked (elements_all (lies_below ms 1) m.a20
    (writes g i k) quiet)) in
    peek-place n a ∙ ap (memory.byte_at n) (place-shaped m n w.shape a) ∙ kept ∙ sym (peek-place m a)

-- ---- ranges

own_address : (a20 : Bool) (a : ℕ) → a < 0xC0000 → linear a20 (segment_below a) (a - segment_below a * 16) ≡ a
own_address true a low = omega (arith, low)
own_address false a low = omega (arith, low)

low_byte_at : (m : Memory) (a : ℕ) → a < 0xC0000 → byte_at m a ≡ peek m a
low_byte_at m a low = ap (peek m) (own_address m.a20 a low)

values_equal : (f g : ℕ → ℕ) (a n : ℕ) → ((x : ℕ) → a ≤ x → x < a + n → f x ≡ g x) → values f a n ≡ values g a n
values_equal f g a zero h = refl
values_equal f g a (suc n) h =
    ap (λ (x : ℕ). x ∷ values f (suc a) n) (h a (omega arith) (omega arith))
    ∙ ap (λ (l : List ℕ). g a ∷ l) (values_equal f g (suc a) n (λ x low high. h x (omega (arith, low)) (omega (
      arith,
      high,
    ))))

few_by : (b : Bool) (x y : ℕ) → (if b then 0 else min x y) ≤ x
few_by true x y = omega arith
few_by false x y = omega arith

few : (r : Range) → bytes_there r ≤ r.length
few r = few_by (nat_lt 0x10FFEF r.address) r.length (0x10FFF0 - r.address)

range_still : (g : Guest) (i : Ins) (k : ℕ) (ms : List ℕ) (r : Range) → r.address + r.length ≤ 0xC0000 →
    HasLevel 1 ms (Change r) → satisfy (lies_below ms 1) g.memory.a20 (writes g i k) ≡ true
    → range_bytes (effect g i k).memory r ≡ range_bytes g.memory r
range_still g i k ms r low marked quiet =
    let m = g.memory in
    let n = (effect g i k).memory in
    values_equal (byte_at n) (byte_at m) r.address (bytes_there r) (λ x from to.
    let under : x < 0xC0000 = omega (arith, from, to, low, few r) in
    let level : 1 ≤ level_at ms (x / 16) = marked (x / 16) (omega (arith, from)) (omega (arith, to, few r)) in
    low_byte_at n x under ∙ keeps_byte g i k ms x under level quiet ∙ sym (low_byte_at m x under))

event_still : (g : Guest) (i : Ins) (k : ℕ) (ms : List ℕ) (e : Event) → is_markable e ≡ true → IsGuarded ms e →
    satisfy (lies_below ms 1) g.memory.a20 (writes g i k) ≡ true
    → bytes_for (effect g i k).memory e ≡ bytes_for g.memory e
event_still g i k ms (At p) markable marked quiet = refl
event_still g i k ms (Address a) markable marked quiet = refl
event_still g i k ms (Change r) markable marked quiet = (let low : r.address + r.length ≤ 0xC0000 =
    grind (arith, nat_tests) in range_still g i k ms r low marked quiet)
event_still g i k ms (Call n) markable marked quiet = refl
event_still g i k ms (Function n ah) markable marked quiet = refl

-- all ranges stay as they are
pub all_still : (start : Memory) (g : Guest) (i : Ins) (k : ℕ) (ms : List ℕ) (es : List Event) →
    list_all is_markable es ≡ true → All (IsGuarded ms) es → satisfy (lies_below ms 1) g.memory.a20 (writes g i k)
    ≡ true → AreStill start g.memory es → AreStill start (effect g i k).memory es
all_still start g i k ms [] markable marked quiet still = All-nil (λ (e : Event). bytes_for (effect g i k).memory e
    ≡ bytes_for start e)
all_still start g i k ms (e ∷ es) markable marked quiet still =
    let here = event_still g i k ms e (and_left (is_markable e) (list_all is_markable es) markable)
    (All-head (IsGuarded ms) e es marked) quiet in
    All-cons (λ (e : Event). bytes_for (effect g i k).memory e ≡ bytes_for start e) e es (here
    ∙ All-head (λ (e : Event). bytes_for g.memory e ≡ bytes_for start e) e es still)
    (all_still start g i k ms es (and_right (is_markable e) (list_all is_markable es) markable)
    (All-tail (IsGuarded ms) e es marked) quiet (All-tail (λ (e : Event). bytes_for g.memory e
    ≡ bytes_for start e) e es still))

-- ---- what is read again

reads_own : (m : Memory) (a n : ℕ) → reads_as m a (values (byte_at m) a n) ≡ true
reads_own m a zero = refl
reads_own m a (suc n) =
    let here : (byte_at m a == byte_at m a) ≡ true = grind (arith, nat_tests) in
    let rest : reads_as m (a + 1) (values (byte_at m) (suc a) n) ≡ true =
    subst (λ (j : ℕ). reads_as m j (values (byte_at m) (suc a) n) ≡ true) (sym (add-one a))
    (reads_own m (suc a) n) in
    rw (here, rest) refl

both_true : (b x : Bool) → (if b then x else false) ≡ true → (b ≡ true) × (x ≡ true)
both_true true x e = (refl, e)
both_true false x e = absurd (false≢true e)

read_same : (n m : Memory) (a c : ℕ) → reads_as n a (values (byte_at m) a c) ≡ true →
    values (byte_at n) a c ≡ values (byte_at m) a c
read_same n m a zero e = refl
read_same n m a (suc c) e =
    let h = both_true (byte_at n a == byte_at m a) (reads_as n (a + 1) (values (byte_at m) (suc a) c)) e in
    let rest : reads_as n (suc a) (values (byte_at m) (suc a) c) ≡ true =
    subst (λ (j : ℕ). reads_as n j (values (byte_at m) (suc a) c) ≡ true) (add-one a) h.1 in
    ap (λ (x : ℕ). x ∷ values (byte_at n) (suc a) c) (eqb-true (byte_at n a) (byte_at m a) h.0)
    ∙ ap (λ (l : List ℕ). byte_at m a ∷ l) (read_same n m (suc a) c rest)

-- a range that is as before has not changed
pub no_change : (start : Memory) (t : State) (r : Range) → range_bytes t.memory r ≡ range_bytes start r →
    has_come start t (Change r) ≡ false
no_change start t r still =
    let reads : reads_as t.memory r.address (range_bytes start r) ≡ true =
    subst (λ (l : List ℕ). reads_as t.memory r.address l ≡ true) still (reads_own t.memory r.address
    (bytes_there r)) in
    rw reads refl

not_true : (b : Bool) → not b ≡ false → b ≡ true
not_true true e = refl
not_true false e = absurd (false≢true (sym e))

still_by : (start : Memory) (t : State) (e : Event) → has_come start t e ≡ false →
    bytes_for t.memory e ≡ bytes_for start e
still_by start t (At p) h = refl
still_by start t (Address a) h = refl
still_by start t (Change r) h = read_same t.memory start r.address (bytes_there r)
    (not_true (reads_as t.memory r.address (range_bytes start r)) h)
still_by start t (Call n) h = refl
still_by start t (Function n ah) h = refl

none_head : (b : Bool) (k : ℕ) (rest : Option ℕ) → (if b then Some k else rest) ≡ None → (b ≡ false) × (rest ≡ None)
none_head true k rest e = cc
none_head false k rest e = (refl, e)

-- where no event has come, all ranges are as before
pub still_unless : (start : Memory) (t : State) (k : ℕ) (es : List Event) → first_from (has_come start t) k es ≡ None →
    AreStill start t.memory es
still_unless start t k [] h = All-nil (λ (e : Event). bytes_for t.memory e ≡ bytes_for start e)
still_unless start t k (e ∷ es) h =
    let x = none_head (has_come start t e) k (first_from (has_come start t) (k + 1) es) h in
    All-cons (λ (e : Event). bytes_for t.memory e ≡ bytes_for start e) e es (still_by start t e x.0)
    (still_unless start t (k + 1) es x.1)

-- all ranges are as they are
pub still_here : (m : Memory) (es : List Event) → AreStill m m es
still_here m [] = All-nil (λ (e : Event). bytes_for m e ≡ bytes_for m e)
still_here m (e ∷ es) = All-cons (λ (e : Event). bytes_for m e ≡ bytes_for m e) e es refl (still_here m es)
