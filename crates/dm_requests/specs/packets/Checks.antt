-- The checksum of a packet, and the two digits that spell it.
-- Source: GDB manual, "GDB Remote Serial Protocol", "Overview".
use Rattle.std.specs.Prelude.{ℕ, ◌+◌, ◌*◌, ◌%◌, ◌==◌, Bool, false, List, sum, Option, Some}
use Rattle.hex.specs.Hex.{hex_digit_value}

-- the sum of the bytes, modulo 256
abbrev pub checksum_of : List ℕ → ℕ
checksum_of bytes = sum bytes % 256

-- whether the values of two digits, of which either may be missing, spell the number
abbrev pub spell : ℕ → Option ℕ → Option ℕ → Bool
spell n (Some high) (Some low) = high * 16 + low == n
spell n _ _ = false

-- whether two bytes are the hexadecimal digits, in either case, of a checksum
abbrev pub is_checked : ℕ → ℕ → ℕ → Bool
is_checked n high low = spell n (hex_digit_value high) (hex_digit_value low)
