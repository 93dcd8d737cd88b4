-- Numbers, place by place.
use Rattle.std.proofs.Common.{◌≡◌, ℕ, ◌+◌, ◌*◌, ◌^◌, List, [], ◌∷◌, length, sym, ◌∙◌, ap, subst, arith}
use Rattle.std.proofs.Math.Nat.{pow-suc}
use Rattle.std.specs.Int.{from_bool}
use Rattle.dm_alu.specs.Adjustments.{al_of}
use Rattle.dm_laws.specs.arithmetic.Decimal.{Accumulator, IsPacked, packed}
use Rattle.dm_laws.specs.arithmetic.Numbers.{ArePacked, NumbersAddAndSubtract, Places, after_difference, after_sum, difference_bytes, first_number, loaded, packed_number, place_added, place_subtracted, second_number, sum_bytes}
use Rattle.dm_laws.proofs.arithmetic.Packed.{packed_add, packed_subtract}

loaded-is : (x : Accumulator) (d : ℕ) → IsPacked d → al_of (loaded x d).ax ≡ d
loaded-is x d h = (let a = h.tens in omega arith)

-- one place: the digit and the carry
sum-place : (x : Accumulator) (p : Places) → IsPacked p.a → IsPacked p.b →
    packed (al_of (place_added x p).ax) + 100 * from_bool (place_added x p).flags.carry ≡ packed p.a + packed p.b
    + from_bool x.flags.carry
sum-place x p a b =
    let at = loaded-is x p.a a in
    let r = packed_add (loaded x p.a) p.b x.flags.carry (omega arith) (subst IsPacked (sym at) a) b in
    r.sum ∙ ap (λ z. packed z + packed p.b + from_bool x.flags.carry) at

difference-place : (x : Accumulator) (p : Places) → IsPacked p.a → IsPacked p.b →
    packed (al_of (place_subtracted x p).ax) + (packed p.b + from_bool x.flags.carry)
    ≡ packed p.a + 100 * from_bool (place_subtracted x p).flags.carry
difference-place x p a b =
    let at = loaded-is x p.a a in
    let r = packed_subtract (loaded x p.a) p.b x.flags.carry (omega arith) (subst IsPacked (sym at) a) b in
    r.difference ∙ ap (λ z. packed z + 100 * from_bool (place_subtracted x p).flags.carry) at

-- and the places above
sum-more : (d n s q t c a b e f : ℕ) → d + 100 * e ≡ a + b + c → n + s * q ≡ t + f + e →
    d + 100 * n + s * 100 * q ≡ a + 100 * t + (b + 100 * f) + c
sum-more d n s q t c a b e f h k = omega arith

difference-more : (d n s q t c a b e f : ℕ) → d + (b + c) ≡ a + 100 * e → n + (f + e) ≡ t + s * q →
    d + 100 * n + (b + 100 * f + c) ≡ a + 100 * t + s * 100 * q
difference-more d n s q t c a b e f h k = omega arith

sums : (x : Accumulator) (L : List Places) → ArePacked L → packed_number (sum_bytes x L) + 100 ^ length L * from_bool
    (after_sum x L).flags.carry ≡ first_number L + second_number L + from_bool x.flags.carry
sums x [] h = omega arith
sums x (p ∷ L) h =
    let y = place_added x p in
    ap (λ z. packed_number (sum_bytes x (p ∷ L)) + z * from_bool (after_sum x (p ∷ L)).flags.carry)
    (pow-suc 100 (length L))
    ∙ sum-more (packed (al_of y.ax)) (packed_number (sum_bytes y L)) (100 ^ length L)
    (from_bool (after_sum y L).flags.carry) (first_number L) (from_bool x.flags.carry) (packed p.a) (packed p.b)
    (from_bool y.flags.carry) (second_number L) (sum-place x p h.0 h.1) (sums y L h.2)

differences : (x : Accumulator) (L : List Places) → ArePacked L → packed_number (difference_bytes x L)
    + (second_number L + from_bool x.flags.carry) ≡ first_number L + 100 ^ length L * from_bool
    (after_difference x L).flags.carry
differences x [] h = omega arith
differences x (p ∷ L) h =
    let y = place_subtracted x p in
    difference-more (packed (al_of y.ax)) (packed_number (difference_bytes y L)) (100 ^ length L)
    (from_bool (after_difference y L).flags.carry) (first_number L) (from_bool x.flags.carry) (packed p.a)
    (packed p.b) (from_bool y.flags.carry) (second_number L) (difference-place x p h.0 h.1) (differences y L h.2)
    ∙ ap (λ z. first_number (p ∷ L) + z * from_bool (after_difference x (p ∷ L)).flags.carry)
    (sym (pow-suc 100 (length L)))

pub numbers : NumbersAddAndSubtract
numbers x L h = record { sum = sums x L h; difference = differences x L h }
