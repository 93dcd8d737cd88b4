-- Events at addresses, spelled as the pairs of one segment.
use Rattle.std.proofs.Common.{◌≡◌, ℕ, ◌+◌, ◌-◌, ◌*◌, ◌%◌, ◌<◌, Bool, true, false, List, [], ◌∷◌, ◌++◌, None, inl, inr, refl, sym, ◌∙◌, arith}
use Rattle.std.specs.Prelude.{◌==◌, ◌&&◌, if◌then◌else◌, nat_le}
use Rattle.std.specs.List.{list_all}
use Rattle.std.proofs.lemmas.Bool.{false≢true, cases_eq, cases_lt}
use Rattle.std.proofs.lemmas.Bool.Decides.{nat_tests}
use Rattle.dm_space.specs.Memory.{Memory, linear}
use Rattle.dm_services.specs.state.State.{State}
use Rattle.dm_machine.specs.declared.until.Breakpoint.{Breakpoint}
use Rattle.dm_machine.specs.Until.{is_one_of}
use Rattle.dm_debug.specs.declared.stops.events.Event.{Event}
use Rattle.dm_debug.specs.declared.stops.events.Event.TheVariants.{At, Address, Change, Call, Function}
use Rattle.dm_debug.specs.stops.Events.{has_come, first_from}
use Rattle.dm_debug.specs.stops.inner.Nearby.{is_at_address, pair_at, pairs_at, pairs_for, pairs_of}

pub and_left : (a b : Bool) → (a && b) ≡ true → a ≡ true
and_left true b e = refl
and_left false b e = absurd (false≢true e)

pub and_right : (a b : Bool) → (a && b) ≡ true → b ≡ true
and_right true b e = e
and_right false b e = absurd (false≢true e)

neither : (b x : Bool) → (if b then true else x) ≡ false → (b ≡ false) × (x ≡ false)
neither true x e = absurd (false≢true (sym e))
neither false x e = (refl, e)

pub one_append : (ps qs : List Breakpoint) (s o : ℕ) → is_one_of (ps ++ qs) s o ≡ false → (is_one_of ps s o ≡ false) ×
    (is_one_of qs s o ≡ false)
one_append [] qs s o e = (refl, e)
one_append (p ∷ ps) qs s o e =
    let h = neither (p.offset == o && p.segment == s) (is_one_of (ps ++ qs) s o) e in
    let rest = one_append ps qs s o h.1 in
    let off = h.0 in
    (rw off rest.0, rest.1)

pair_other : (s o q : ℕ) → o < 65536 → is_one_of (pair_at s q) s o ≡ false → q ≡ s * 16 + o → ⊥
pair_other s o q small e same =
    let low : nat_le (s * 16) q ≡ true = grind (arith, nat_tests) in
    let high : nat_le q (s * 16 + 65535) ≡ true = grind (arith, nat_tests) in
    let offset : (q - s * 16 == o) ≡ true = grind (arith, nat_tests) in
    let segment : (s == s) ≡ true = grind (arith, nat_tests) in
    let yes : is_one_of (pair_at s q) s o ≡ true = rw (low, high, offset, segment) refl in
    false≢true (sym e ∙ yes)

not_equal : (p q : ℕ) → (p ≡ q → ⊥) → (p == q) ≡ false
not_equal p q h = elim (cases_eq p q) [
  | inl same ↦ absurd (h same)
  | inr other ↦ grind (arith, nat_tests)
]

point_other : (a20 : Bool) (s o p : ℕ) → s < 65536 → o < 65536 → is_one_of (pairs_at s p) s o ≡ false →
    (p == linear a20 s o) ≡ false
point_other true s o p seg small e =
    let h = one_append (pair_at s p) (pair_at s (p + 1048576)) s o e in
    not_equal p (s * 16 + o) (pair_other s o p small h.0)
point_other false s o p seg small e =
    let h = one_append (pair_at s p) (pair_at s (p + 1048576)) s o e in
    not_equal p ((s * 16 + o) % 1048576) (λ same. elim (cases_lt (s * 16 + o) 1048576) [
      | inl below ↦ pair_other s o p small h.0 (omega (arith, same, below))
      | inr over ↦ pair_other s o (p + 1048576) small h.1 (omega (arith, same, over, seg, small))
    ])

-- at an address that is none of the pairs of an event at an address, the event has not come
pub apart : (start : Memory) (s : State) (e : Event) → is_at_address e ≡ true → s.cpu.cs < 65536 → s.cpu.ip < 65536 →
    is_one_of (pairs_for s.cpu.cs e) s.cpu.cs s.cpu.ip ≡ false → has_come start s e ≡ false
apart start s (At p) address seg small off = (neither (p.offset == s.cpu.ip && p.segment == s.cpu.cs) false off).0
apart start s (Address a) address seg small off = point_other s.memory.a20 s.cpu.cs s.cpu.ip a seg small off
apart start s (Change r) address seg small off = absurd (false≢true address)
apart start s (Call n) address seg small off = absurd (false≢true address)
apart start s (Function n ah) address seg small off = absurd (false≢true address)

-- at an address that is none of the pairs of events at addresses, no event has come
pub all_apart : (start : Memory) (s : State) (es : List Event) (k : ℕ) → list_all is_at_address es ≡ true →
    s.cpu.cs < 65536 → s.cpu.ip < 65536 → is_one_of (pairs_of s.cpu.cs es) s.cpu.cs s.cpu.ip ≡ false
    → first_from (has_come start s) k es ≡ None
all_apart start s [] k addresses seg small off = refl
all_apart start s (e ∷ es) k addresses seg small off =
    let h = one_append (pairs_for s.cpu.cs e) (pairs_of s.cpu.cs es) s.cpu.cs s.cpu.ip off in
    let first = apart start s e (and_left (is_at_address e) (list_all is_at_address es) addresses) seg small h.0 in
    let rest = all_apart start s es (k + 1) (and_right (is_at_address e) (list_all is_at_address es) addresses) seg
    small h.1 in
    rw (first, rest) refl
