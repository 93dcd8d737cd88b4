-- Values rotated by some bits at once, alone or with the carry flag.
use Rattle.std.specs.Prelude.{ℕ, ◌+◌, ◌-◌, ◌*◌, ◌/◌, ◌%◌, ◌^◌, if◌then◌else◌}
use Rattle.std.specs.Int.{from_bool}
use Rattle.dm_alu.specs.declared.width.Width.{Width}
use Rattle.dm_alu.specs.declared.width.Width.TheVariants.{Byte, Word}
use Rattle.dm_alu.specs.declared.shifts.Shifted.{Shifted}
use Rattle.dm_alu.specs.Width.{size, is_negative}

-- the number of bits of a value of the width
abbrev pub bits_of : Width → ℕ
bits_of Byte = 8
bits_of Word = 16

-- x, of as many bits as N has values, rotated to the left by k bits
abbrev pub rotated : ℕ → ℕ → ℕ → ℕ
rotated N x k = x * 2 ^ k % N + x * 2 ^ k / N

-- a value and the carry flag as one number, the carry above the value, or below it
abbrev pub with_carry_above : Width → Shifted → ℕ
with_carry_above w m = m.value + from_bool m.carry * size w

abbrev pub with_carry_below : Shifted → ℕ
with_carry_below m = m.value * 2 + from_bool m.carry

-- a value extended by its sign to 32 bits
abbrev pub with_sign_above : Width → ℕ → ℕ
with_sign_above w n = (if is_negative w n then 4294967296 - size w else 0) + n
