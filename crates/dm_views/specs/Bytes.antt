-- The listing of bytes in memory: lines with the address, each byte in two digits, and each as a character.
-- Source: MS-DOS User's Reference, "DEBUG" (Dump). The form is this machine's own.
use Rattle.std.specs.Prelude.{ℕ, ◌+◌, ◌-◌, ◌*◌, ◌/◌, ◌&&◌, min, nat_le, if◌then◌else◌, List, [], ◌∷◌, ◌++◌, codes}
use Rattle.dm_space.specs.Memory.{Memory}
use Rattle.dm_views.specs.Digits.{two_digits, address_text, in_turn}
use Rattle.dm_cpu.specs.Guest.{up}
use Rattle.dm_space.specs.EightBytes.{byte_after}

-- a byte as a character: itself from 20h to 7Eh, otherwise a point
abbrev pub printable : ℕ → ℕ
printable b = if nat_le 0x20 b && nat_le b 0x7E then b else 46

-- a space and the two digits of the byte k places after segment:offset; offsets wrap
abbrev pub in_digits : Memory → ℕ → ℕ → ℕ → List ℕ
in_digits m segment offset k = codes " " ++ two_digits (byte_after m segment offset k)

-- the byte k places after segment:offset, as a character; offsets wrap
abbrev pub as_text : Memory → ℕ → ℕ → ℕ → List ℕ
as_text m segment offset k = printable (byte_after m segment offset k) ∷ []

-- one line with `count` bytes from segment:offset on: the address, the bytes in digits, and the bytes as characters
abbrev pub line_text : Memory → ℕ → ℕ → ℕ → List ℕ
line_text m segment offset count =
    address_text segment offset ++ in_turn (in_digits m segment offset) count ++ codes "  "
    ++ in_turn (as_text m segment offset) count ++ 10 ∷ []

-- line j (from 0) of the listing of `count` bytes from segment:offset on: 16 bytes, or in the last line what is left
abbrev pub line_at : Memory → ℕ → ℕ → ℕ → ℕ → List ℕ
line_at m segment offset count j = line_text m segment (up offset (16 * j)) (min 16 (count - 16 * j))

-- the listing of `count` bytes from segment:offset on, 16 to a line; offsets wrap
abbrev pub bytes_text : Memory → ℕ → ℕ → ℕ → List ℕ
bytes_text m segment offset count = in_turn (line_at m segment offset count) ((count + 15) / 16)
