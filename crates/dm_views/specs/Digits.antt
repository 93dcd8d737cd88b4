-- Numbers in hexadecimal with a fixed count of digits, and addresses.
-- Source: MS-DOS User's Reference, "DEBUG" (displays).
use Rattle.std.specs.Prelude.{ℕ, zero, suc, ◌/◌, ◌%◌, List, [], ◌∷◌, ◌++◌, codes}
use Rattle.dm_decode.specs.Pieces.{digit}

-- a byte as two hexadecimal digits
unfoldable pub two_digits : ℕ → List ℕ
two_digits n = digit (n / 16) ∷ digit (n % 16) ∷ []

-- a word as four hexadecimal digits
unfoldable pub four_digits : ℕ → List ℕ
four_digits n = digit (n / 4096) ∷ digit (n / 256 % 16) ∷ digit (n / 16 % 16) ∷ digit (n % 16) ∷ []

-- the low 32 bits of a number, a linear address of extended memory, as eight hexadecimal digits
unfoldable pub eight_digits : ℕ → List ℕ
eight_digits n = four_digits (n / 65536 % 65536) ++ four_digits (n % 65536)

-- segment:offset, four hexadecimal digits each
abbrev pub address_text : ℕ → ℕ → List ℕ
address_text segment offset = four_digits segment ++ codes ":" ++ four_digits offset

-- the texts that f gives for the numbers 0 to n - 1 (of bytes, lines, handles or windows), one after the other
unfoldable pub in_turn : (ℕ → List ℕ) → ℕ → List ℕ
in_turn f zero = []
in_turn f (suc n) = in_turn f n ++ f n
