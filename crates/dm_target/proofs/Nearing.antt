-- Breakpoints by linear addresses, spelled as the pairs of one segment.
use Rattle.std.proofs.Common.{◌≡◌, ℕ, ◌+◌, ◌-◌, ◌*◌, ◌%◌, ◌<◌, Bool, true, false, List, [], ◌∷◌, ◌++◌, inl, inr, refl, sym, ◌∙◌, arith}
use Rattle.std.specs.Prelude.{◌==◌, ◌&&◌, if◌then◌else◌, nat_le}
use Rattle.std.proofs.lemmas.Bool.{false≢true, cases_eq, cases_lt}
use Rattle.std.proofs.lemmas.Bool.Decides.{nat_tests}
use Rattle.dm_space.specs.Memory.{linear}
use Rattle.dm_machine.specs.declared.until.Breakpoint.{Breakpoint}
use Rattle.dm_machine.specs.Until.{is_one_of}
use Rattle.dm_target.specs.Going.{is_among}
use Rattle.dm_target.specs.inner.Looking.{pair_at, pairs_at, pairs_of}

neither : (b x : Bool) → (if b then true else x) ≡ false → (b ≡ false) × (x ≡ false)
neither true x e = absurd (false≢true (sym e))
neither false x e = (refl, e)

one_append : (ps qs : List Breakpoint) (s o : ℕ) → is_one_of (ps ++ qs) s o ≡ false → (is_one_of ps s o ≡ false) ×
    (is_one_of qs s o ≡ false)
one_append [] qs s o e = (refl, e)
one_append (p ∷ ps) qs s o e =
    let h = neither (p.offset == o && p.segment == s) (is_one_of (ps ++ qs) s o) e in
    let rest = one_append ps qs s o h.1 in
    let off = h.0 in
    (rw off rest.0, rest.1)

pair_other : (s o q : ℕ) → o < 65536 → is_one_of (pair_at s q) s o ≡ false → q ≡ s * 16 + o → ⊥
pair_other s o q small e same =
    let low : nat_le (s * 16) q ≡ true = grind (arith, nat_tests) in
    let high : nat_le q (s * 16 + 65535) ≡ true = grind (arith, nat_tests) in
    let offset : (q - s * 16 == o) ≡ true = grind (arith, nat_tests) in
    let segment : (s == s) ≡ true = grind (arith, nat_tests) in
    let yes : is_one_of (pair_at s q) s o ≡ true = rw (low, high, offset, segment) refl in
    false≢true (sym e ∙ yes)

not_equal : (p q : ℕ) → (p ≡ q → ⊥) → (p == q) ≡ false
not_equal p q h = elim (cases_eq p q) [
  | inl same ↦ absurd (h same)
  | inr other ↦ grind (arith, nat_tests)
]

point_other : (a20 : Bool) (s o p : ℕ) → s < 65536 → o < 65536 → is_one_of (pairs_at s p) s o ≡ false →
    (p == linear a20 s o) ≡ false
point_other true s o p seg small e =
    let h = one_append (pair_at s p) (pair_at s (p + 1048576)) s o e in
    not_equal p (s * 16 + o) (pair_other s o p small h.0)
point_other false s o p seg small e =
    let h = one_append (pair_at s p) (pair_at s (p + 1048576)) s o e in
    not_equal p ((s * 16 + o) % 1048576) (λ same. elim (cases_lt (s * 16 + o) 1048576) [
      | inl below ↦ pair_other s o p small h.0 (omega (arith, same, below))
      | inr over ↦ pair_other s o (p + 1048576) small h.1 (omega (arith, same, over, seg, small))
    ])

-- a place of a segment that is none of the pairs is at no breakpoint
pub points_other : (points : List ℕ) (a20 : Bool) (s o : ℕ) → s < 65536 → o < 65536 →
    is_one_of (pairs_of s points) s o ≡ false → is_among points (linear a20 s o) ≡ false
points_other [] a20 s o seg small e = refl
points_other (p ∷ ps) a20 s o seg small e =
    let h = one_append (pairs_at s p) (pairs_of s ps) s o e in
    let first = point_other a20 s o p seg small h.0 in
    let rest = points_other ps a20 s o seg small h.1 in
    rw (first, rest) refl
