-- Whether the two top bits of a value differ: by the top bit of a sum
use Rattle.std.proofs.Common.{◌≡◌, ◌∙◌, ℕ, ◌+◌, ◌*◌, ◌%◌, ◌<◌, Bool, true, false, ◌⊎◌, inl, inr, refl, ap, sym, arith, nat_le}
use Rattle.std.specs.Int.{from_bool}
use Rattle.std.proofs.lemmas.Bool.Decides.{nat_tests}
use Rattle.dm_alu.specs.declared.shifts.Shifted.{Shifted}
use Rattle.dm_alu.specs.declared.shifts.ShiftOperation.{ShiftOperation}
use Rattle.dm_alu.specs.declared.shifts.ShiftOperation.TheVariants.{RotateLeft, RotateThroughCarryLeft, Left}
use Rattle.dm_alu.specs.declared.width.Width.{Width}
use Rattle.dm_alu.specs.declared.width.Width.TheVariants.{Byte, Word}
use Rattle.dm_alu.specs.Shifts.{differ, moves, overflow_after_shift, second_bit, to_left}
use Rattle.dm_alu.specs.Width.{is_negative, size}
use Rattle.dm_operations.proofs.Signs.{small}

word_by : (v : ℕ) (t s d : Bool) → v < 65536 → t ≡ nat_le 32768 v → s ≡ nat_le 32768 (v * 2 % 65536) →
    d ≡ nat_le 2147483648 ((v + 16384) * 65536 % 4294967296) → d ≡ differ t s
word_by v true true true h e f g = grind (arith, nat_tests)
word_by v true true false h e f g = grind (arith, nat_tests)
word_by v true false true h e f g = grind (arith, nat_tests)
word_by v true false false h e f g = grind (arith, nat_tests)
word_by v false true true h e f g = grind (arith, nat_tests)
word_by v false true false h e f g = grind (arith, nat_tests)
word_by v false false true h e f g = grind (arith, nat_tests)
word_by v false false false h e f g = grind (arith, nat_tests)

pub word_turns : (v : ℕ) → v < 65536 → nat_le 2147483648 ((v + 16384) * 65536 % 4294967296)
    ≡ differ (nat_le 32768 v) (nat_le 32768 (v * 2 % 65536))
word_turns v h = word_by v _ _ _ h refl refl refl

byte_by : (v : ℕ) (t s d : Bool) → v < 256 → t ≡ nat_le 128 v → s ≡ nat_le 128 (v * 2 % 256) →
    d ≡ nat_le 2147483648 ((v + 64) * 16777216 % 4294967296) → d ≡ differ t s
byte_by v true true true h e f g = grind (arith, nat_tests)
byte_by v true true false h e f g = grind (arith, nat_tests)
byte_by v true false true h e f g = grind (arith, nat_tests)
byte_by v true false false h e f g = grind (arith, nat_tests)
byte_by v false true true h e f g = grind (arith, nat_tests)
byte_by v false true false h e f g = grind (arith, nat_tests)
byte_by v false false true h e f g = grind (arith, nat_tests)
byte_by v false false false h e f g = grind (arith, nat_tests)

pub byte_turns : (v : ℕ) → v < 256 → nat_le 2147483648 ((v + 64) * 16777216 % 4294967296)
    ≡ differ (nat_le 128 v) (nat_le 128 (v * 2 % 256))
byte_turns v h = byte_by v _ _ _ h refl refl refl

-- the new top bit after a move to the left is the second bit, whatever comes in below
word_second : (v b : ℕ) (s t : Bool) → v < 65536 → b < 2 → t ≡ nat_le 32768 (v * 2 % 65536) →
    s ≡ nat_le 32768 (v * 2 % 65536 + b) → t ≡ s
word_second v b true true h k e f = refl
word_second v b true false h k e f = grind (arith, nat_tests)
word_second v b false true h k e f = grind (arith, nat_tests)
word_second v b false false h k e f = refl

byte_second : (v b : ℕ) (s t : Bool) → v < 256 → b < 2 → t ≡ nat_le 128 (v * 2 % 256) →
    s ≡ nat_le 128 (v * 2 % 256 + b) → t ≡ s
byte_second v b true true h k e f = refl
byte_second v b true false h k e f = grind (arith, nat_tests)
byte_second v b false true h k e f = grind (arith, nat_tests)
byte_second v b false false h k e f = refl

second_stays : (w : Width) (n : ℕ) (b : Bool) → n < size w →
    second_bit w n ≡ is_negative w (n * 2 % size w + from_bool b)
second_stays Byte n b h = byte_second n (from_bool b) _ _ h (small b) refl refl
second_stays Word n b h = word_second n (from_bool b) _ _ h (small b) refl refl

-- overflow after a single move to the left, by the value before it
left_by : (w : Width) (m a : Shifted) (b : Bool) → m.value < size w → a ≡ to_left w m.value b →
    differ (is_negative w m.value) (second_bit w m.value) ≡ differ a.carry (is_negative w a.value)
left_by w m a b h e =
    ap (λ s. differ (is_negative w m.value) s) (second_stays w m.value b h)
    ∙ ap (λ (x : Shifted). differ x.carry (is_negative w x.value)) (sym e)

rotates_left : (o : ShiftOperation) (w : Width) (m a : Shifted) → o ≡ RotateLeft → m.value < size w →
    a ≡ moves o w 1 m →
    differ (is_negative w m.value) (second_bit w m.value) ≡ overflow_after_shift o w m.value a
unfolding moves
rotates_left o w m a e h f =
    left_by w m a (is_negative w m.value) h (f ∙ ap (λ x. moves x w 1 m) e)
    ∙ ap (λ x. overflow_after_shift x w m.value a) (sym e)

rotates_through_carry : (o : ShiftOperation) (w : Width) (m a : Shifted) → o ≡ RotateThroughCarryLeft →
    m.value < size w → a ≡ moves o w 1 m →
    differ (is_negative w m.value) (second_bit w m.value) ≡ overflow_after_shift o w m.value a
unfolding moves
rotates_through_carry o w m a e h f =
    left_by w m a m.carry h (f ∙ ap (λ x. moves x w 1 m) e) ∙ ap (λ x. overflow_after_shift x w m.value a) (sym e)

moves_left : (o : ShiftOperation) (w : Width) (m a : Shifted) → o ≡ Left → m.value < size w → a ≡ moves o w 1 m →
    differ (is_negative w m.value) (second_bit w m.value) ≡ overflow_after_shift o w m.value a
unfolding moves
moves_left o w m a e h f =
    left_by w m a false h (f ∙ ap (λ x. moves x w 1 m) e) ∙ ap (λ x. overflow_after_shift x w m.value a) (sym e)

pub overflow_left : (o : ShiftOperation) (w : Width) (m a : Shifted) → (o ≡ RotateLeft) ⊎
    ((o ≡ RotateThroughCarryLeft) ⊎ (o ≡ Left)) → m.value < size w → a ≡ moves o w 1 m →
    differ (is_negative w m.value) (second_bit w m.value) ≡ overflow_after_shift o w m.value a
overflow_left o w m a s h f =
    elim s [
      | inl e ↦ rotates_left o w m a e h f
      | inr t ↦ elim t [ inl e ↦ rotates_through_carry o w m a e h f | inr e ↦ moves_left o w m a e h f ]
    ]
