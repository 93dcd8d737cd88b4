-- overflow by the signs of the values and of the result
use Rattle.std.proofs.Common.{◌≡◌, ℕ, ◌<◌, Bool, true, false, not, refl, arith}
use Rattle.std.specs.Bool.{beq}
use Rattle.std.proofs.lemmas.Int.{ints}
use Rattle.std.specs.Prelude.{◌&&◌, if◌then◌else◌}
use Rattle.dm_alu.specs.declared.width.Width.{Width}
use Rattle.dm_alu.specs.Width.{size, is_negative, signed, leaves_range}
use Rattle.dm_alu.specs.Sums.{sum_value, sum_overflows, difference_value, difference_overflows}
use Rattle.dm_alu.proofs.Bits.{bit_le}

-- the sum: p and q are the signs of the values, r is that of the result
pub sum-signs : (w : Width) (a b v : ℕ) (c p q r : Bool) → a < size w → b < size w → v ≡ sum_value w a b c →
    p ≡ is_negative w a → q ≡ is_negative w b → r ≡ is_negative w v → (if p then (q && not r) else (not q && r))
    ≡ sum_overflows w a b c
unfolding sum_overflows leaves_range signed sum_value
sum-signs w a b v c true true true h k e f g l = grind (arith, ints, bit_le)
sum-signs w a b v c true true false h k e f g l = grind (arith, ints, bit_le)
sum-signs w a b v c true false r h k e f g l = grind (arith, ints, bit_le)
sum-signs w a b v c false true r h k e f g l = grind (arith, ints, bit_le)
sum-signs w a b v c false false true h k e f g l = grind (arith, ints, bit_le)
sum-signs w a b v c false false false h k e f g l = grind (arith, ints, bit_le)

-- the difference
pub difference-signs : (w : Width) (a b v : ℕ) (c p q r : Bool) → a < size w → b < size w →
    v ≡ difference_value w a b c →
    p ≡ is_negative w a → q ≡ is_negative w b → r ≡ is_negative w v → (if p then (not q && not r) else (q && r))
    ≡ difference_overflows w a b c
unfolding difference_overflows leaves_range signed difference_value
difference-signs w a b v c true false true h k e f g l = grind (arith, ints, bit_le)
difference-signs w a b v c true false false h k e f g l = grind (arith, ints, bit_le)
difference-signs w a b v c true true r h k e f g l = grind (arith, ints, bit_le)
difference-signs w a b v c false false r h k e f g l = grind (arith, ints, bit_le)
difference-signs w a b v c false true true h k e f g l = grind (arith, ints, bit_le)
difference-signs w a b v c false true false h k e f g l = grind (arith, ints, bit_le)

-- the same, as equal and unequal signs: the signs of the values are one, or not
pub same-sign : (p q r : Bool) → beq p q ≡ true → not (beq p r) ≡ (if p then (q && not r) else (not q && r))
same-sign true true true h = refl
same-sign true true false h = refl
same-sign true false r h = cc
same-sign false true r h = cc
same-sign false false true h = refl
same-sign false false false h = refl

pub other-sign : (p q r : Bool) → beq p q ≡ false → beq p q ≡ (if p then (q && not r) else (not q && r))
other-sign true true r h = cc
other-sign true false r h = refl
other-sign false true r h = refl
other-sign false false r h = cc

pub unlike-sign : (p q r : Bool) → not (beq p q) ≡ true → not (beq p r) ≡ (if p then (not q && not r) else (q && r))
unlike-sign true true r h = cc
unlike-sign true false true h = refl
unlike-sign true false false h = refl
unlike-sign false true true h = refl
unlike-sign false true false h = refl
unlike-sign false false r h = cc

pub like-sign : (p q r : Bool) → not (beq p q) ≡ false → not (beq p q) ≡ (if p then (not q && not r) else (q && r))
like-sign true true r h = refl
like-sign true false r h = cc
like-sign false true r h = cc
like-sign false false r h = refl
