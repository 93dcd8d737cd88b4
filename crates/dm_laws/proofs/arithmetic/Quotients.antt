-- Products and quotients.
use Rattle.std.proofs.Common.{Bool, ◌≡◌, ◌≢◌, ℕ, ◌+◌, ◌*◌, ◌/◌, ◌%◌, ◌<◌, ◌≤◌, ◌⊎◌, inl, inr, true, false, ◌||◌, if◌then◌else◌, nat_eq, nat_le, Some, None, refl, ◌∙◌, ap, ap₂, subst, arith}
use Rattle.std.proofs.Math.Nat.{div-add-mod}
use native.Mathlib.Nat.{mod-lt}
use Rattle.std.proofs.lemmas.Bool.Decides.{nat_tests}
use Rattle.std.proofs.lemmas.Nat.{div-mul-add, mod-mul-add}
use Rattle.dm_alu.specs.declared.products.Division.{Division}
use Rattle.dm_alu.specs.declared.products.Sign.TheVariants.{Unsigned}
use Rattle.dm_alu.specs.declared.width.Width.{Width}
use Rattle.dm_alu.specs.Products.{product_value, quotient_of}
use Rattle.dm_alu.specs.Width.{size}
use Rattle.dm_laws.specs.arithmetic.Products.{DivisionUndoesMultiplication, IsQuotient, UnsignedDivisionDivides}

-- an answer that an if gives
pub if-some : {A : Type 0} (t : Bool) (x y : A) → (if t then None else Some x) ≡ Some y → (t ≡ false) × (x ≡ y)
if-some true x y e = absurd (let z = e in cc)
if-some false x y e = (refl, (let z = e in cc))

pub if-none : {A : Type 0} (t : Bool) (x : A) → (if t then None else Some x) ≡ None → t ≡ true
if-none true x e = refl
if-none false x e = absurd (let z = e in cc)

pub neither : (p q : Bool) → p || q ≡ false → (p ≡ false) × (q ≡ false)
neither true q e = absurd (let z = e in cc)
neither false q e = (refl, e)

pub either : (p q : Bool) → p || q ≡ true → (p ≡ true) ⊎ (q ≡ true)
either true q e = inl refl
either false q e = inr e

pub below : (x y : ℕ) → nat_le x y ≡ false → y < x
below x y e = grind (arith, nat_tests)

pub at_least : (x y : ℕ) → nat_le x y ≡ true → x ≤ y
at_least x y e = grind (arith, nat_tests)

pub is_zero : (x : ℕ) → nat_eq x 0 ≡ true → x ≡ 0
is_zero x e = grind (arith, nat_tests)

pub positive : (x : ℕ) → nat_eq x 0 ≡ false → 0 < x
positive x e = grind (arith, nat_tests)

pub not-zero : (x : ℕ) → x ≢ 0 → nat_eq x 0 ≡ false
not-zero x e = grind (arith, nat_tests)

pub not-at_least : (x y : ℕ) → y < x → nat_le x y ≡ false
not-at_least x y e = grind (arith, nat_tests)

commuted : (a b : ℕ) → a * b ≡ b * a
commuted a b = omega arith

is_quotient : (w : Width) (n d : ℕ) → 0 < d → n / d < size w → IsQuotient w n d (record {
  quotient = n / d;
  remainder = n % d;
})
is_quotient w n d p h = record {
  number = ap (λ z. z + n % d) (commuted (n / d) d) ∙ div-add-mod n d;
  less = mod-lt n p;
  fits = h;
}

-- the quotient is at least s, so the dividend is at least s times the divisor
pub too_large : (s n d : ℕ) → s ≤ n / d → s * d ≤ n
too_large s n d h = grind (arith, div-add-mod n d)

pub unsigned_divides : UnsignedDivisionDivides
unfolding quotient_of
unsigned_divides w n d = record {
  divided = λ r e. (let x = if-some (nat_eq d 0 || nat_le (size w) (n / d)) (record {
    quotient = n / d;
    remainder = n % d;
  }) r e in
      let y = neither (nat_eq d 0) (nat_le (size w) (n / d)) x.0 in
      let F : Division → Type 0 = λ z. IsQuotient w n d z in
      subst F x.1 (is_quotient w n d (positive d y.0) (below _ _ y.1)));
  refused = λ e. (elim (either (nat_eq d 0) (nat_le (size w) (n / d)) (if-none (nat_eq d 0 ||
      nat_le (size w) (n / d)) (record { quotient = n / d; remainder = n % d }) e)) [
        | inl z ↦ inl (is_zero d z)
        | inr l ↦ inr (too_large (size w) n d (at_least _ _ l))
      ]);
}

-- a quotient that fits is given
pub given : (w : Width) (n d q r : ℕ) → n / d ≡ q → n % d ≡ r → d ≢ 0 → q < size w →
    quotient_of Unsigned w n d ≡ Some (record { quotient = q; remainder = r })
unfolding quotient_of
given w n d q r e f nonzero h =
    ap₂ (λ s t. if s || t then None else Some (record { quotient = n / d; remainder = n % d })) (not-zero d nonzero)
    (not-at_least (size w) (n / d) (omega arith))
    ∙ ap₂ (λ (s : ℕ) (t : ℕ). Some (record { quotient = s; remainder = t })) e f

pub above_zero : (d : ℕ) → d ≢ 0 → 0 < d
above_zero d e = omega arith

pub undone : DivisionUndoesMultiplication
unfolding product_value
undone w a d h nonzero =
    let z : a * d ≡ a * d + 0 = omega arith in
    given w (a * d) d a 0 (ap (λ x. x / d) z ∙ div-mul-add a d 0 (above_zero d nonzero)) (ap (λ x. x % d) z
    ∙ mod-mul-add a d 0 (above_zero d nonzero)) nonzero h
