-- Signed products and quotients.
use Rattle.std.proofs.Common.{Bool, ◌≡◌, ◌≢◌, ℕ, ℤ, pos, negsuc, zero, suc, neg_ℤ, ◌+◌, ◌-◌, ◌*◌, ◌/◌, ◌%◌, ◌+ℤ◌, ◌-ℤ◌, ◌*ℤ◌, ◌<◌, ◌≤◌, ◌≤ℤ◌, ◌⊎◌, inl, inr, true, false, if◌then◌else◌, nat_eq, nat_le, Option, Some, None, refl, sym, ◌∙◌, ap, ap₂, subst, arith, unsigned_abs, int_div, int_rem}
use Rattle.std.proofs.lemmas.Bool.Decides.{nat_tests}
use Rattle.std.proofs.lemmas.Int.{ints, quot-rem, rem_below, unsigned_abs-mul}
use Rattle.std.proofs.lemmas.Nat.{div-mul-add, mod-mul-add}
use native.Mathlib.Nat.{mul-le-mul}
use Rattle.dm_alu.specs.declared.products.Division.{Division}
use Rattle.dm_alu.specs.declared.width.Width.{Width}
use Rattle.dm_alu.specs.declared.width.Width.TheVariants.{Byte, Word}
use Rattle.dm_alu.specs.Products.{product_value, quotient_of, signed_division, signed_double, twos_complement}
use Rattle.dm_alu.specs.Width.{half, signed, size}
use Rattle.dm_laws.specs.arithmetic.Products.{IsSignedQuotient, SignedDivisionDivides, SignedDivisionUndoesMultiplication}
use Rattle.dm_laws.proofs.arithmetic.Quotients.{at_least, below, if-some, is_zero, not-at_least, not-zero, positive, too_large}

-- the signed number that a value stands for in two's complement modulo `limit`, twice `top`
sgn : ℕ → ℕ → ℕ → ℤ
sgn limit top n = if nat_le top n then pos n -ℤ pos limit else pos n

low-sgn : (limit top n : ℕ) → n < top → sgn limit top n ≡ pos n
unfolding sgn
low-sgn limit top n h = ap (λ (t : Bool). if t then pos n -ℤ pos limit else pos n) (not-at_least top n h)

at_top : (x y : ℕ) → x ≤ y → nat_le x y ≡ true
at_top x y h = grind (arith, nat_tests)

high-sgn : (limit top n k : ℕ) → top ≤ n → suc k + n ≡ limit → sgn limit top n ≡ negsuc k
unfolding sgn
high-sgn limit top n k h e = ap (λ (t : Bool). if t then pos n -ℤ pos limit else pos n) (at_top top n h)
    ∙ omega (arith, ints)

sgn-twos : (limit top : ℕ) (z : ℤ) → top + top ≡ limit → unsigned_abs z < top → sgn limit top (twos_complement limit z)
    ≡ z
sgn-twos limit top (pos n) e h = low-sgn limit top n h
sgn-twos limit top (negsuc k) e h = high-sgn limit top (limit - suc k) k (omega arith) (omega arith)

either_half : (top n : ℕ) → (n < top) ⊎ (top ≤ n)
either_half top n = grind arith

twos-sgn : (limit top n : ℕ) → top + top ≡ limit → n < limit → twos_complement limit (sgn limit top n) ≡ n
twos-sgn limit top n e h = elim (either_half top n) [
  | inl l ↦ ap (twos_complement limit) (low-sgn limit top n l)
  | inr l ↦ ap (twos_complement limit) (high-sgn limit top n (limit - n - 1) l (omega arith)) ∙ omega arith
]

sgn-small : (limit top n : ℕ) → top + top ≡ limit → n < limit → unsigned_abs (sgn limit top n) ≤ top
sgn-small limit top n e h = elim (either_half top n) [
  | inl l ↦ (let x = ap unsigned_abs (low-sgn limit top n l) in omega arith)
  | inr l ↦ (let x = ap unsigned_abs (high-sgn limit top n (limit - n - 1) l (omega arith)) in omega arith)
]

sgn-smaller : (limit top n : ℕ) → top + top ≡ limit → n < limit → n ≢ top → unsigned_abs (sgn limit top n) < top
sgn-smaller limit top n e h ne = elim (either_half top n) [
  | inl l ↦ (let x = ap unsigned_abs (low-sgn limit top n l) in omega arith)
  | inr l ↦ (let x = ap unsigned_abs (high-sgn limit top n (limit - n - 1) l (omega arith)) in omega arith)
]

sgn-positive : (limit top n : ℕ) → top + top ≡ limit → n < limit → n ≢ 0 → 0 < unsigned_abs (sgn limit top n)
sgn-positive limit top n e h ne = elim (either_half top n) [
  | inl l ↦ (let x = ap unsigned_abs (low-sgn limit top n l) in omega arith)
  | inr l ↦ (let x = ap unsigned_abs (high-sgn limit top n (limit - n - 1) l (omega arith)) in omega arith)
]

-- the widths
twice : (w : Width) → half w + half w ≡ size w
twice Byte = refl
twice Word = refl

twice_double : (w : Width) → half w * size w + half w * size w ≡ size w * size w
twice_double Byte = refl
twice_double Word = refl

signed-is : (w : Width) (n : ℕ) → signed w n ≡ sgn (size w) (half w) n
unfolding sgn signed
signed-is w n = refl

double-is : (w : Width) (n : ℕ) → signed_double w n ≡ sgn (size w * size w) (half w * size w) n
unfolding sgn signed_double
double-is w n = refl

signed-back : (w : Width) (z : ℤ) → unsigned_abs z < half w → signed w (twos_complement (size w) z) ≡ z
signed-back w z h = signed-is w _ ∙ sgn-twos (size w) (half w) z (twice w) h

pub divisor-small : (w : Width) (d : ℕ) → d < size w → unsigned_abs (signed w d) ≤ half w
divisor-small w d h = subst (λ z. unsigned_abs z ≤ half w) (sym (signed-is w d)) (sgn-small (size w) (half w) d
    (twice w) h)

pub divisor-positive : (w : Width) (d : ℕ) → d < size w → d ≢ 0 → 0 < unsigned_abs (signed w d)
divisor-positive w d h ne = subst (λ z. 0 < unsigned_abs z) (sym (signed-is w d)) (sgn-positive (size w) (half w) d
    (twice w) h ne)

zero-mod : (m : ℕ) → 0 % m ≡ 0
zero-mod m = omega arith

zero-div : (m : ℕ) → 0 / m ≡ 0
zero-div m = omega arith

-- the remainder is on the dividend's side of zero
rem-up : (a d : ℤ) → pos 0 ≤ℤ a → pos 0 ≤ℤ int_rem a d
rem-up (pos a) d h = omega (arith, ints)
rem-up (negsuc a) d h = absurd (omega (arith, ints))

rem-down : (a d : ℤ) → a ≤ℤ pos 0 → int_rem a d ≤ℤ pos 0
rem-down (pos zero) d h = subst (λ z. pos z ≤ℤ pos 0) (sym (zero-mod (unsigned_abs d))) (omega (arith, ints))
rem-down (pos (suc a)) d h = absurd (omega (arith, ints))
rem-down (negsuc a) d h = omega (arith, ints)

abs_neg : (n : ℕ) → unsigned_abs (neg_ℤ (pos n)) ≡ n
abs_neg zero = refl
abs_neg (suc n) = refl

abs-div : (a d : ℤ) → unsigned_abs (int_div a d) ≡ unsigned_abs a / unsigned_abs d
abs-div (pos a) (pos d) = refl
abs-div (pos a) (negsuc d) = abs_neg _
abs-div (negsuc a) (pos d) = abs_neg _
abs-div (negsuc a) (negsuc d) = refl

module _ (w : Width) (n d : ℕ) (h : d < size w) where
  abbrev none : Option Division
  none = None

  is_signed : (q r : ℤ) → q ≡ int_div (signed_double w n) (signed w d) → r ≡ int_rem (signed_double w n) (signed w d) →
      d ≢ 0 → unsigned_abs q < half w → IsSignedQuotient w n d (record {
        quotient = twos_complement (size w) q;
        remainder = twos_complement (size w) r;
      })
  is_signed q r e f ne k =
      let p = rem_below (signed_double w n) (signed w d) (divisor-positive w d h ne) in
      let s = divisor-small w d h in
      let u : unsigned_abs r < unsigned_abs (signed w d) = subst (λ z. unsigned_abs z < unsigned_abs (signed w d))
      (sym f) p in
      let qb : signed w (twos_complement (size w) q) ≡ q = signed-back w q k in
      let rb : signed w (twos_complement (size w) r) ≡ r = signed-back w r (omega arith) in
      record {
        number = ap₂ (λ y z. y *ℤ signed w d +ℤ z) (qb ∙ e) (rb ∙ f) ∙ quot-rem (signed_double w n) (signed w d);
        less = subst (λ z. unsigned_abs z < unsigned_abs (signed w d)) (sym rb) u;
        up = λ g. subst (λ z. pos 0 ≤ℤ z) (sym (rb ∙ f)) (rem-up (signed_double w n) (signed w d) g);
        down = λ g. subst (λ z. z ≤ℤ pos 0) (sym (rb ∙ f)) (rem-down (signed_double w n) (signed w d) g);
        fits = subst (λ z. unsigned_abs z < half w) (sym qb) k;
      }

  divides : (Q R : ℤ) → Q ≡ int_div (signed_double w n) (signed w d) → R ≡ int_rem (signed_double w n) (signed w d) →
      (t u : Bool) → nat_eq d 0 ≡ t → nat_le (half w) (unsigned_abs Q) ≡ u →
      ((r : Division) → (if t then None else (if u then None else Some (record {
        quotient = twos_complement (size w) Q;
        remainder = twos_complement (size w) R;
      }))) ≡ Some r → IsSignedQuotient w n d r)
      × ((if t then None else (if u then None else Some (record {
        quotient = twos_complement (size w) Q;
        remainder = twos_complement (size w) R;
      }))) ≡ none → (d ≡ 0) ⊎
      (half w * unsigned_abs (signed w d) ≤ unsigned_abs (signed_double w n)))
  divides Q R e f true u z y = (λ r x. absurd (let v = x in cc), λ x. inl (is_zero d z))
  divides Q R e f false true z y = (
    λ r x. absurd (let v = x in cc),
    λ x. inr (too_large (half w) (unsigned_abs (signed_double w n)) (unsigned_abs (signed w d)) (let v =
        at_least _ _ y in let a = ap unsigned_abs e ∙ abs-div (signed_double w n) (signed w d) in omega arith)),
  )
  divides Q R e f false false z y = (
    λ r x. (let F : Division → Type 0 = λ v. IsSignedQuotient w n d v in let v =
        if-some false (record { quotient = twos_complement (size w) Q; remainder = twos_complement (size w) R }) r x in
        subst F v.1 (is_signed Q R e f (let g = positive d z in omega arith) (below _ _ y))),
    λ x. absurd (let v = x in cc),
  )

pub signed_divides : SignedDivisionDivides
unfolding quotient_of signed_division
signed_divides w n d h = let x = divides w n d h _ _ refl refl _ _ refl refl in record { divided = x.0; refused = x.1 }

-- a product is divided by its second factor
product-div : (a b : ℕ) → 0 < b → a * b / b ≡ a
product-div a b h = (let z : a * b ≡ a * b + 0 = omega arith in ap (λ x. x / b) z ∙ div-mul-add a b 0 h)

product-mod : (a b : ℕ) → 0 < b → a * b % b ≡ 0
product-mod a b h = (let z : a * b ≡ a * b + 0 = omega arith in ap (λ x. x % b) z ∙ mod-mul-add a b 0 h)

neg-div-neg : (k b : ℕ) → int_div (neg_ℤ (pos k)) (negsuc b) ≡ pos (k / suc b)
neg-div-neg zero b = ap (λ z. neg_ℤ (pos z)) (zero-div (suc b)) ∙ ap pos (sym (zero-div (suc b)))
neg-div-neg (suc k) b = refl

neg-div-pos : (k b : ℕ) → int_div (neg_ℤ (pos k)) (pos b) ≡ neg_ℤ (pos (k / b))
neg-div-pos zero b = ap pos (zero-div b) ∙ ap (λ z. neg_ℤ (pos z)) (sym (zero-div b))
neg-div-pos (suc k) b = refl

neg-rem : (k : ℕ) (d : ℤ) → int_rem (neg_ℤ (pos k)) d ≡ neg_ℤ (pos (k % unsigned_abs d))
neg-rem zero d = ap pos (zero-mod (unsigned_abs d)) ∙ ap (λ z. neg_ℤ (pos z)) (sym (zero-mod (unsigned_abs d)))
neg-rem (suc k) d = refl

div-back : (x y : ℤ) → 0 < unsigned_abs y → int_div (x *ℤ y) y ≡ x
div-back (pos a) (pos b) h = ap pos (product-div a b h)
div-back (pos a) (negsuc b) h = neg-div-neg (a * suc b) b ∙ ap pos (product-div a (suc b) h)
div-back (negsuc a) (pos b) h = neg-div-pos (suc a * b) b ∙ ap (λ z. neg_ℤ (pos z)) (product-div (suc a) b h)
div-back (negsuc a) (negsuc b) h = ap (λ z. neg_ℤ (pos z)) (product-div (suc a) (suc b) h)

rem-back : (x y : ℤ) → 0 < unsigned_abs y → int_rem (x *ℤ y) y ≡ pos 0
rem-back (pos a) (pos b) h = ap pos (product-mod a b h)
rem-back (pos a) (negsuc b) h = neg-rem (a * suc b) (negsuc b) ∙ ap (λ z. neg_ℤ (pos z)) (product-mod a (suc b) h)
rem-back (negsuc a) (pos b) h = neg-rem (suc a * b) (pos b) ∙ ap (λ z. neg_ℤ (pos z)) (product-mod (suc a) b h)
rem-back (negsuc a) (negsuc b) h = ap pos (product-mod (suc a) (suc b) h)

square : (w : Width) → half w * half w < half w * size w
square Byte = omega arith
square Word = omega arith

pub product-small : (w : Width) (a d : ℕ) → a < size w → d < size w → unsigned_abs (signed w a *ℤ signed w d)
    < half w * size w
product-small w a d h k =
    let x = unsigned_abs-mul (signed w a) (signed w d) in
    let y = mul-le-mul (divisor-small w a h) (divisor-small w d k) in
    let z = square w in
    omega arith

signed-value : (w : Width) (a : ℕ) → a < size w → a ≢ half w → signed_division w (signed w a) (pos 0)
    ≡ Some (record { quotient = a; remainder = 0 })
unfolding signed_division
signed-value w a h m =
    let small : unsigned_abs (signed w a) < half w = subst (λ z. unsigned_abs z < half w) (sym (signed-is w a))
    (sgn-smaller (size w) (half w) a (twice w) h m) in
    let back : twos_complement (size w) (signed w a) ≡ a = ap (twos_complement (size w)) (signed-is w a)
    ∙ twos-sgn (size w) (half w) a (twice w) h in
    ap (λ (t : Bool). if t then None else Some (record {
      quotient = twos_complement (size w) (signed w a);
      remainder = 0;
    })) (not-at_least (half w) (unsigned_abs (signed w a)) small)
    ∙ ap (λ (q : ℕ). Some (record { quotient = q; remainder = 0 })) back

pub signed_undone : SignedDivisionUndoesMultiplication
unfolding quotient_of product_value
signed_undone w a d h k m nonzero =
    let x = signed w a in
    let y = signed w d in
    let p : ℕ = twos_complement (size w * size w) (x *ℤ y) in
    let is : signed_double w p ≡ x *ℤ y = double-is w p ∙ sgn-twos (size w * size w) (half w * size w) (x *ℤ y)
    (twice_double w) (product-small w a d h k) in
    let yp = divisor-positive w d k nonzero in
    ap₂ (λ (t : Bool) (z : ℤ). if t then None else signed_division w (int_div z y) (int_rem z y))
    (not-zero d nonzero) is
    ∙ ap₂ (signed_division w) (div-back x y yp) (rem-back x y yp) ∙ signed-value w a h m
