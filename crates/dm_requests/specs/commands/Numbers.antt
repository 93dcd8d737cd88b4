-- Numbers, addresses and bytes as they are typed: all digits are hexadecimal, letters in either case.
-- Source: MS-DOS User's Reference, "DEBUG" (numbers and addresses); the bounds are this machine's own.
use Rattle.std.specs.Prelude.{ℕ, ◌+◌, ◌*◌, ◌/◌, ◌==◌, ◌||◌, nat_lt, nat_le, if◌then◌else◌, List, [], ◌∷◌, ◌++◌, length, Option, Some, None, Result, Ok, Err}
use Rattle.hex.specs.Hex.{hex_digit_value, decode_of}
use Rattle.hex.specs.declared.error.FromHexError.{FromHexError}
use Rattle.dm_requests.specs.declared.commands.command.LogicalAddress.{LogicalAddress}

-- f of a value, or None for None: how `do` continues with an optional value
infixl 10 ◌>>=◌
abbrev pub ◌>>=◌ : {A B : Type 0} → Option A → (A → Option B) → Option B
None >>= f = None
(Some x) >>= f = f x

-- the number that hexadecimal digits spell after others that spell n; None if a byte is no digit, n if there are none
abbrev pub digits_of : ℕ → List ℕ → Option ℕ
digits_of n [] = Some n
digits_of n (b ∷ bs) = do
  d ← hex_digit_value b
  digits_of (n * 16 + d) bs

-- the number that one to eight hexadecimal digits spell; None for any other word
unfoldable pub hexadecimal_number : List ℕ → Option ℕ
hexadecimal_number w = if length w == 0 || nat_lt 8 (length w) then None else digits_of 0 w

-- the number, if there is one and it is at most `most`; otherwise None
abbrev pub up_to : ℕ → Option ℕ → Option ℕ
up_to most None = None
up_to most (Some n) = if nat_le n most then Some n else None

-- the number that one to eight hexadecimal digits spell, if it is at most FFFFh; otherwise None
abbrev pub word_from_digits : List ℕ → Option ℕ
word_from_digits w = up_to 0xFFFF (hexadecimal_number w)

-- the bytes before the first colon, with `front` before them, and the bytes after it; None if there is no colon
abbrev pub parts_of : List ℕ → List ℕ → Option (List ℕ × List ℕ)
parts_of front [] = None
parts_of front (b ∷ bs) = if b == 58 then Some (front, bs) else parts_of (front ++ b ∷ []) bs

-- the address that a word spells: a segment and an offset, each at most FFFFh, with a colon between them; None for any
-- other word
abbrev pub logical_address : List ℕ → Option LogicalAddress
logical_address w = do
  p ← parts_of [] w
  segment ← word_from_digits p.0
  offset ← word_from_digits p.1
  Some (record { segment = segment; offset = offset })

-- the bytes that were decoded from digits; None if the digits are bad
abbrev pub if_good : Result (List ℕ) FromHexError → Option (List ℕ)
if_good (Ok bytes) = Some bytes
if_good (Err e) = None

-- the 1 to 64 bytes that a word spells, each as two hexadecimal digits, with nothing between them; None for any other
-- word
unfoldable pub bytes_from_digits : List ℕ → Option (List ℕ)
bytes_from_digits w = if length w / 2 == 0 || nat_lt 64 (length w / 2) then None else if_good (decode_of w)
