-- Shifts as products and quotients by powers of 2.
use Rattle.std.proofs.Common.{Bool, ◌≡◌, ℕ, ℤ, pos, negsuc, zero, suc, ◌+◌, ◌*◌, ◌/◌, ◌%◌, ◌^◌, ◌+ℤ◌, ◌-ℤ◌, ◌*ℤ◌, ◌<◌, ◌≤◌, true, false, MatchBool, if◌then◌else◌, sym, ◌∙◌, ap, subst, arith}
use Rattle.std.proofs.lemmas.Int.{ints}
use Rattle.std.proofs.Math.Nat.{div-div-eq-div-mul, pow-suc}
use Rattle.std.specs.Int.{from_bool}
use Rattle.dm_alu.specs.declared.shifts.Shifted.{Shifted}
use Rattle.dm_alu.specs.declared.shifts.ShiftOperation.TheVariants.{ArithmeticRight, Left, LogicalRight}
use Rattle.dm_alu.specs.declared.width.Width.{Width}
use Rattle.dm_alu.specs.declared.width.Width.TheVariants.{Byte, Word}
use Rattle.dm_alu.specs.Shifts.{moves, one_move}
use Rattle.dm_alu.specs.Width.{half, signed, size}
use Rattle.dm_laws.specs.arithmetic.Shifts.{ShiftingDoublesOrHalves}
use Rattle.dm_laws.proofs.arithmetic.Moves.{moves-last, moves-zero, start, value-is}
use Rattle.dm_laws.proofs.arithmetic.Tests.{test_le}

double_byte : (n p v : ℕ) → v ≡ n * p % 256 → v * 2 % 256 + 0 ≡ n * (p * 2) % 256
double_byte n p v f = omega arith

double_word : (n p v : ℕ) → v ≡ n * p % 65536 → v * 2 % 65536 + 0 ≡ n * (p * 2) % 65536
double_word n p v f = omega arith

double : (w : Width) (n p q v : ℕ) → q ≡ p * 2 → v ≡ n * p % size w → v * 2 % size w + from_bool false ≡ n * q % size w
double Byte n p q v e f = double_byte n p v f ∙ ap (λ z. n * z % 256) (sym e)
double Word n p q v e f = double_word n p v f ∙ ap (λ z. n * z % 65536) (sym e)

one : (w : Width) (n : ℕ) → n < size w → n ≡ n * 2 ^ 0 % size w
one Byte n h = omega arith
one Word n h = omega arith

left : (w : Width) (k : ℕ) (m : Shifted) → m.value < size w → (moves Left w k m).value ≡ m.value * 2 ^ k % size w
left w zero m h = ap (λ z. z.value) (moves-zero Left w m) ∙ one w m.value h
left w (suc k) m h = ap (λ z. z.value) (moves-last Left w k m)
    ∙ double w m.value (2 ^ k) (2 ^ suc k) _ (pow-suc 2 k) (left w k m h)

right : (w : Width) (k : ℕ) (m : Shifted) → (moves LogicalRight w k m).value ≡ m.value / 2 ^ k
right w zero m = ap (λ z. z.value) (moves-zero LogicalRight w m) ∙ omega arith
right w (suc k) m =
    let v : ℕ = (moves LogicalRight w k m).value in
    let z : v / 2 + from_bool false * half w ≡ v / 2 = omega arith in
    ap (λ z. z.value) (moves-last LogicalRight w k m) ∙ z ∙ ap (λ y. y / 2) (right w k m)
    ∙ div-div-eq-div-mul m.value (2 ^ k) 2 ∙ ap (λ y. m.value / y) (sym (pow-suc 2 k))

-- SAR keeps within the width, and halves the signed number
halved_byte : (v : ℕ) (t u : Bool) → v < 256 → MatchBool t (128 ≤ v) (v < 128) →
    MatchBool u (128 ≤ v / 2 + from_bool t * 128) (v / 2 + from_bool t * 128 < 128) →
    (v / 2 + from_bool t * 128 < 256) × ((if t then pos v -ℤ pos 256 else pos v) ≡ (if u then
    pos (v / 2 + from_bool t * 128) -ℤ pos 256 else pos (v / 2 + from_bool t * 128)) *ℤ pos 2 +ℤ pos (v % 2))
halved_byte v true true h e f = (omega arith, omega (arith, ints))
halved_byte v true false h e f = absurd (omega arith)
halved_byte v false true h e f = absurd (omega arith)
halved_byte v false false h e f = (omega arith, omega (arith, ints))

halved_word : (v : ℕ) (t u : Bool) → v < 65536 → MatchBool t (32768 ≤ v) (v < 32768) →
    MatchBool u (32768 ≤ v / 2 + from_bool t * 32768) (v / 2 + from_bool t * 32768 < 32768) →
    (v / 2 + from_bool t * 32768 < 65536) × ((if t then pos v -ℤ pos 65536 else pos v) ≡ (if u then
    pos (v / 2 + from_bool t * 32768) -ℤ pos 65536 else pos (v / 2 + from_bool t * 32768)) *ℤ pos 2 +ℤ pos (v % 2))
halved_word v true true h e f = (omega arith, omega (arith, ints))
halved_word v true false h e f = absurd (omega arith)
halved_word v false true h e f = absurd (omega arith)
halved_word v false false h e f = (omega arith, omega (arith, ints))

halved : (w : Width) (m : Shifted) → m.value < size w → ((one_move ArithmeticRight w m).value < size w) ×
    (signed w m.value ≡ signed w (one_move ArithmeticRight w m).value *ℤ pos 2 +ℤ pos (m.value % 2))
unfolding signed
halved Byte m h = halved_byte m.value _ _ h (test_le 128 m.value) (test_le 128 _)
halved Word m h = halved_word m.value _ _ h (test_le 32768 m.value) (test_le 32768 _)

-- two steps of a division
minus_twice : (a p r : ℕ) → negsuc (a * 2 + 1) *ℤ pos p +ℤ pos r ≡ negsuc a *ℤ pos (p * 2) +ℤ pos (0 * p + r)
minus_twice a p r = omega (arith, ints)

minus_odd : (a p r : ℕ) → negsuc (a * 2) *ℤ pos p +ℤ pos r ≡ negsuc a *ℤ pos (p * 2) +ℤ pos (1 * p + r)
minus_odd a p r = omega (arith, ints)

even : (a : ℕ) → negsuc a *ℤ pos 2 +ℤ pos 0 ≡ negsuc (a * 2 + 1)
even a = omega (arith, ints)

odd : (a : ℕ) → negsuc a *ℤ pos 2 +ℤ pos 1 ≡ negsuc (a * 2)
odd a = omega (arith, ints)

distributed : (t : ℤ) (p r b : ℕ) → b < 2 → (t *ℤ pos 2 +ℤ pos b) *ℤ pos p +ℤ pos r
    ≡ t *ℤ pos (p * 2) +ℤ pos (b * p + r)
distributed (pos a) p r b h = omega (arith, ints)
distributed (negsuc a) p r zero h = ap (λ z. z *ℤ pos p +ℤ pos r) (even a) ∙ minus_twice a p r
distributed (negsuc a) p r (suc zero) h = ap (λ z. z *ℤ pos p +ℤ pos r) (odd a) ∙ minus_odd a p r
distributed (negsuc a) p r (suc (suc b)) h = absurd (omega arith)

stepped : (s t : ℤ) (n : ℤ) (p r b : ℕ) → b < 2 → n ≡ s *ℤ pos p +ℤ pos r → s ≡ t *ℤ pos 2 +ℤ pos b →
    n ≡ t *ℤ pos (p * 2) +ℤ pos (b * p + r)
stepped s t n p r b h e f = e ∙ ap (λ z. z *ℤ pos p +ℤ pos r) f ∙ distributed t p r b h

less_twice : (b p r : ℕ) → b < 2 → r < p → b * p + r < p * 2
less_twice b p r h k = grind arith

signed_right : (w : Width) (k : ℕ) (m : Shifted) → m.value < size w → ((moves ArithmeticRight w k m).value < size w) ×
    ((r : ℕ) × (r < 2 ^ k) × (signed w m.value ≡ signed w (moves ArithmeticRight w k m).value *ℤ pos (2 ^ k) +ℤ pos r))
signed_right w zero m h =
    let z = moves-zero ArithmeticRight w m in
    let F : Shifted → Type 0 = λ x. (x.value < size w) × ((r : ℕ) × (r < 2 ^ 0) ×
    (signed w m.value ≡ signed w x.value *ℤ pos (2 ^ 0) +ℤ pos r)) in
    subst F (sym z) (h, (0, omega arith, unchanged (signed w m.value)))
  where
    unchanged : (z : ℤ) → z ≡ z *ℤ pos 1 +ℤ pos 0
    unchanged z = omega (arith, ints)
signed_right w (suc k) m h =
    let x = signed_right w k m h in
    let v : Shifted = moves ArithmeticRight w k m in
    let y = halved w v x.0 in
    let F : Shifted → Type 0 = λ z. (z.value < size w) × ((r : ℕ) × (r < 2 ^ suc k) ×
    (signed w m.value ≡ signed w z.value *ℤ pos (2 ^ suc k) +ℤ pos r)) in
    let G : ℕ → Type 0 = λ q. (r : ℕ) × (r < q) ×
    (signed w m.value ≡ signed w (one_move ArithmeticRight w v).value *ℤ pos q +ℤ pos r) in
    subst F (sym (moves-last ArithmeticRight w k m)) (
      y.0,
      subst G (sym (pow-suc 2 k)) (
        v.value % 2 * 2 ^ k + x.1.0,
        less_twice (v.value % 2) (2 ^ k) x.1.0 (omega arith) x.1.1,
        stepped (signed w v.value) (signed w (one_move ArithmeticRight w v).value) (signed w m.value) (2 ^ k) x.1.0
            (v.value % 2) (omega arith) x.1.2 y.1,
      ),
    )

pub doubles_or_halves : ShiftingDoublesOrHalves
doubles_or_halves w k x h =
    let y = signed_right w k (start x) h in
    record {
      left = value-is Left w k x ∙ left w k (start x) h;
      right = value-is LogicalRight w k x ∙ right w k (start x);
      remainder = y.1.0;
      less = y.1.1;
      signed_right = ap (λ v. signed w v *ℤ pos (2 ^ k) +ℤ pos y.1.0) (value-is ArithmeticRight w k x) ∙ sym y.1.2;
    }
