-- Sums and differences of packed digits.
use Rattle.std.proofs.Common.{Bool, ◌≡◌, ℕ, ◌+◌, ◌-◌, ◌*◌, ◌/◌, ◌%◌, ◌<◌, ◌≤◌, true, false, ◌||◌, MatchBool, if◌then◌else◌, nat_le, nat_lt, sym, ◌∙◌, ap, subst, arith}
use Rattle.std.specs.Int.{from_bool}
use Rattle.dm_alu.specs.Adjustments.{adjusted_value, flags_after_adjustment, ah_of, al_of, word_of_halves}
use Rattle.dm_alu.specs.Sums.{difference_value, flags_after_difference, flags_after_sum, sum_value}
use Rattle.dm_laws.specs.arithmetic.Decimal.{IsPacked, PackedDigitsAdd, PackedDigitsSubtract, packed}
use Rattle.dm_laws.proofs.arithmetic.Tests.{bit-below, low-of, test_le, test_lt}

-- the low digits carry, from the test of the low half and the adjust flag
sum-low : (a b c : ℕ) (p q : Bool) → a % 16 < 10 → b % 16 < 10 → c ≤ 1 →
    MatchBool p (9 < (a + b + c) % 256 % 16) ((a + b + c) % 256 % 16 ≤ 9) →
    MatchBool q (16 ≤ a % 16 + b % 16 + c) (a % 16 + b % 16 + c < 16) →
    MatchBool (p || q) (10 ≤ a % 16 + b % 16 + c) (a % 16 + b % 16 + c < 10)
sum-low a b c true true x y z s t = omega arith
sum-low a b c true false x y z s t = omega arith
sum-low a b c false true x y z s t = omega arith
sum-low a b c false false x y z s t = omega arith

-- all digits carry, from the test of AL and the carry flag
sum-high : (a b c : ℕ) (r t : Bool) → a / 16 < 10 → b / 16 < 10 → c ≤ 1 →
    MatchBool r (0x99 < (a + b + c) % 256) ((a + b + c) % 256 ≤ 0x99) →
    MatchBool t (256 ≤ a + b + c) (a + b + c < 256) → MatchBool (r || t) (0x99 < a + b + c) (a + b + c ≤ 0x99)
sum-high a b c true true x y z s t = omega arith
sum-high a b c true false x y z s t = omega arith
sum-high a b c false true x y z s t = omega arith
sum-high a b c false false x y z s t = omega arith

-- AL after DAA, from AL before it
daa : ℕ → Bool → Bool → ℕ
daa s lo hi = (s + ((if lo then 6 else 0) + (if hi then 0x60 else 0))) % 256

sum-digits : (a b c : ℕ) (lo hi : Bool) → a / 16 < 10 → a % 16 < 10 → b / 16 < 10 → b % 16 < 10 → c ≤ 1 →
    MatchBool lo (10 ≤ a % 16 + b % 16 + c) (a % 16 + b % 16 + c < 10) →
    MatchBool hi (0x99 < a + b + c) (a + b + c ≤ 0x99) →
    IsPacked (daa ((a + b + c) % 256) lo hi) × (packed (daa ((a + b + c) % 256) lo hi) + 100 * from_bool hi
    ≡ packed a + packed b + c)
unfolding daa
sum-digits a b c true true x y z w v s t = omega arith
sum-digits a b c true false x y z w v s t = omega arith
sum-digits a b c false true x y z w v s t = omega arith
sum-digits a b c false false x y z w v s t = omega arith

module _ (a b : ℕ) (carry : Bool) (x : IsPacked a) (y : IsPacked b) where
  -- the digits and the carry after DAA, by AL before it
  packed-sum : (l : ℕ) → l ≡ (a + b + from_bool carry) % 256 →
      IsPacked (daa l (nat_lt 9 (l % 16) || nat_le 16 (a % 16 + b % 16 + from_bool carry)) (nat_lt 0x99 l ||
      nat_le 256 (a + b + from_bool carry)))
      × (packed (daa l (nat_lt 9 (l % 16) || nat_le 16 (a % 16 + b % 16 + from_bool carry)) (nat_lt 0x99 l ||
      nat_le 256 (a + b + from_bool carry))) + 100 * from_bool (nat_lt 0x99 l ||
      nat_le 256 (a + b + from_bool carry)) ≡ packed a + packed b + from_bool carry)
  packed-sum l e =
      let c : ℕ = from_bool carry in
      let k = bit-below carry in
      let F : ℕ → Type 0 = λ v. IsPacked (daa v (nat_lt 9 (v % 16) || nat_le 16 (a % 16 + b % 16 + c)) (nat_lt 0x99 v ||
      nat_le 256 (a + b + c))) × (packed (daa v (nat_lt 9 (v % 16) || nat_le 16 (a % 16 + b % 16 + c))
      (nat_lt 0x99 v || nat_le 256 (a + b + c))) + 100 * from_bool (nat_lt 0x99 v || nat_le 256 (a + b + c))
      ≡ packed a + packed b + c) in
      subst F (sym e) (sum-digits a b c _ _ x.tens x.units y.tens y.units k
      (sum-low a b c (nat_lt 9 ((a + b + c) % 256 % 16)) (nat_le 16 (a % 16 + b % 16 + c)) x.units y.units k
      (test_lt _ _) (test_le _ _))
      (sum-high a b c (nat_lt 0x99 ((a + b + c) % 256)) (nat_le 256 (a + b + c)) x.tens y.tens k (test_lt _ _)
      (test_le _ _)))

pub packed_add : PackedDigitsAdd
unfolding adjusted_value flags_after_adjustment sum_value flags_after_sum daa
packed_add x b carry word a d =
    let s : ℕ = (al_of x.ax + b + from_bool carry) % 256 in
    let l : ℕ = al_of (word_of_halves (ah_of x.ax) s) in
    let at : l ≡ s = omega arith in
    let r = packed-sum (al_of x.ax) b carry a d l at in
    let F : ℕ → Type 0 = IsPacked in
    let v = low-of (ah_of (word_of_halves (ah_of x.ax) s)) (l + ((if nat_lt 9 (l % 16) ||
    nat_le 16 (al_of x.ax % 16 + b % 16 + from_bool carry) then 6 else 0) + (if nat_lt 0x99 l ||
    nat_le 256 (al_of x.ax + b + from_bool carry) then 0x60 else 0))) in
    record {
      digits = subst F (sym v) r.0;
      sum = ap (λ z. packed z + 100 * from_bool (nat_lt 0x99 l || nat_le 256 (al_of x.ax + b + from_bool carry))) v
          ∙ r.1;
      rest = omega arith;
    }

-- differences
difference-low : (a b c : ℕ) (p q : Bool) → a < 256 → b < 256 → a % 16 < 10 → b % 16 < 10 → c ≤ 1 →
    MatchBool p (9 < (a + 256 - (b + c)) % 256 % 16) ((a + 256 - (b + c)) % 256 % 16 ≤ 9) →
    MatchBool q (a % 16 < b % 16 + c) (b % 16 + c ≤ a % 16) → MatchBool (p || q) (a % 16 < b % 16 + c) (b % 16 + c
    ≤ a % 16)
difference-low a b c true true f g x y z s t = omega arith
difference-low a b c true false f g x y z s t = omega arith
difference-low a b c false true f g x y z s t = omega arith
difference-low a b c false false f g x y z s t = omega arith

difference-high : (a b c : ℕ) (r t : Bool) → a / 16 < 10 → a % 16 < 10 → b / 16 < 10 → c ≤ 1 →
    MatchBool r (0x99 < (a + 256 - (b + c)) % 256) ((a + 256 - (b + c)) % 256 ≤ 0x99) →
    MatchBool t (a < b + c) (b + c ≤ a) → MatchBool (r || t) (a < b + c) (b + c ≤ a)
difference-high a b c true true x y z w s t = omega arith
difference-high a b c true false x y z w s t = omega arith
difference-high a b c false true x y z w s t = omega arith
difference-high a b c false false x y z w s t = omega arith

-- AL after DAS, from AL before it
das : ℕ → Bool → Bool → ℕ
das s lo hi = (s + 256 - ((if lo then 6 else 0) + (if hi then 0x60 else 0))) % 256

difference-digits : (a b c : ℕ) (lo hi : Bool) → a / 16 < 10 → a % 16 < 10 → b / 16 < 10 → b % 16 < 10 → c ≤ 1 →
    MatchBool lo (a % 16 < b % 16 + c) (b % 16 + c ≤ a % 16) → MatchBool hi (a < b + c) (b + c ≤ a) →
    IsPacked (das ((a + 256 - (b + c)) % 256) lo hi) × (packed (das ((a + 256 - (b + c)) % 256) lo hi) + (packed b + c)
    ≡ packed a + 100 * from_bool hi)
unfolding das
difference-digits a b c true true x y z w v s t = omega arith
difference-digits a b c true false x y z w v s t = omega arith
difference-digits a b c false true x y z w v s t = omega arith
difference-digits a b c false false x y z w v s t = omega arith

module _ (a b : ℕ) (borrow : Bool) (x : IsPacked a) (y : IsPacked b) where
  packed-difference : (l : ℕ) → l ≡ (a + 256 - (b + from_bool borrow)) % 256 →
      IsPacked (das l (nat_lt 9 (l % 16) || nat_lt (a % 16) (b % 16 + from_bool borrow)) (nat_lt 0x99 l ||
      nat_lt a (b + from_bool borrow)))
      × (packed (das l (nat_lt 9 (l % 16) || nat_lt (a % 16) (b % 16 + from_bool borrow)) (nat_lt 0x99 l ||
      nat_lt a (b + from_bool borrow))) + (packed b + from_bool borrow) ≡ packed a + 100 * from_bool
      (nat_lt 0x99 l || nat_lt a (b + from_bool borrow)))
  packed-difference l e =
      let c : ℕ = from_bool borrow in
      let k = bit-below borrow in
      let xt = x.tens in
      let yt = y.tens in
      let F : ℕ → Type 0 = λ v. IsPacked (das v (nat_lt 9 (v % 16) || nat_lt (a % 16) (b % 16 + c)) (nat_lt 0x99 v ||
      nat_lt a (b + c))) × (packed (das v (nat_lt 9 (v % 16) || nat_lt (a % 16) (b % 16 + c)) (nat_lt 0x99 v ||
      nat_lt a (b + c))) + (packed b + c) ≡ packed a + 100 * from_bool (nat_lt 0x99 v || nat_lt a (b + c))) in
      subst F (sym e) (difference-digits a b c _ _ x.tens x.units y.tens y.units k
      (difference-low a b c (nat_lt 9 ((a + 256 - (b + c)) % 256 % 16)) (nat_lt (a % 16) (b % 16 + c)) (omega arith)
      (omega arith) x.units y.units k (test_lt _ _) (test_lt _ _))
      (difference-high a b c (nat_lt 0x99 ((a + 256 - (b + c)) % 256)) (nat_lt a (b + c)) x.tens x.units y.tens k
      (test_lt _ _) (test_lt _ _)))

pub packed_subtract : PackedDigitsSubtract
unfolding adjusted_value flags_after_adjustment difference_value flags_after_difference das
packed_subtract x b borrow word a d =
    let s : ℕ = (al_of x.ax + 256 - (b + from_bool borrow)) % 256 in
    let l : ℕ = al_of (word_of_halves (ah_of x.ax) s) in
    let at : l ≡ s = omega arith in
    let r = packed-difference (al_of x.ax) b borrow a d l at in
    let F : ℕ → Type 0 = IsPacked in
    let v = low-of (ah_of (word_of_halves (ah_of x.ax) s)) (l + 256 - ((if nat_lt 9 (l % 16) ||
    nat_lt (al_of x.ax % 16) (b % 16 + from_bool borrow) then 6 else 0) + (if nat_lt 0x99 l ||
    nat_lt (al_of x.ax) (b + from_bool borrow) then 0x60 else 0))) in
    record {
      digits = subst F (sym v) r.0;
      difference = ap (λ z. packed z + (packed b + from_bool borrow)) v ∙ r.1;
      rest = omega arith;
    }
