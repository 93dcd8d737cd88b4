-- The pieces that the text of an instruction is made of, and their bytes. Numbers are written as in ASM-86:
-- hexadecimal, with a digit in front and an h at the end.
-- Source: Intel 8086 Family User's Manual, section 2.9 (programming facilities: constants of ASM-86). How many digits
-- there are is this machine's own.
use Rattle.std.specs.Prelude.{ℕ, ◌+◌, ◌/◌, ◌%◌, Bool, true, false, ◌&&◌, ◌||◌, ◌==◌, List, [], ◌∷◌, ◌++◌, nat_lt, nat_le, if◌then◌else◌}
use Rattle.std.specs.List.{list_all}

-- a piece of text: a name of letters and digits, a number of a byte or of a word, or a sign, which is one byte
pub data Piece : Type 0 where
  name : List ℕ → Piece
  byte : ℕ → Piece
  word : ℕ → Piece
  sign : ℕ → Piece

-- the ASCII code of a hexadecimal digit, 0 to 9 or A to F, for a value below 16
abbrev pub digit : ℕ → ℕ
digit d = if nat_lt d 10 then 48 + d else 55 + d

-- a byte as a number in text: 0, two hexadecimal digits, h
unfoldable pub byte_in_text : ℕ → List ℕ
byte_in_text n = 48 ∷ digit (n / 16) ∷ digit (n % 16) ∷ 104 ∷ []

-- a word as a number in text: 0, four hexadecimal digits, h
unfoldable pub word_in_text : ℕ → List ℕ
word_in_text n = 48 ∷ digit (n / 4096) ∷ digit (n / 256 % 16) ∷ digit (n / 16 % 16) ∷ digit (n % 16) ∷ 104 ∷ []

-- the bytes of a piece, in ASCII
abbrev pub piece_bytes : Piece → List ℕ
piece_bytes (name w) = w
piece_bytes (byte n) = byte_in_text n
piece_bytes (word n) = word_in_text n
piece_bytes (sign b) = b ∷ []

-- the bytes of pieces, one after the other
abbrev pub text_bytes : List Piece → List ℕ
text_bytes [] = []
text_bytes (p ∷ ps) = piece_bytes p ++ text_bytes ps

-- ---- the signs

-- the space after a word of a mnemonic, a prefix word or a size word
abbrev pub space_sign : Piece
space_sign = sign 32

-- the + between the parts of an address
abbrev pub plus : Piece
plus = sign 43

-- the comma between two operands
abbrev pub comma : Piece
comma = sign 44

-- the colon between a segment and an offset
abbrev pub colon : Piece
colon = sign 58

-- the bracket before an address
abbrev pub left_bracket : Piece
left_bracket = sign 91

-- the bracket after an address
abbrev pub right_bracket : Piece
right_bracket = sign 93

-- ---- pieces that a reader can distinguish

-- the byte may stand in a name: a digit or a capital letter
abbrev pub is_in_names : ℕ → Bool
is_in_names b = (nat_le 48 b && nat_le b 57) || (nat_le 65 b && nat_le b 90)

-- at least one byte, all of them digits and capital letters
abbrev pub is_name : List ℕ → Bool
is_name [] = false
is_name (b ∷ w) = list_all is_in_names (b ∷ w)

-- the byte is one of the signs of a text: a space or + , : [ ]
abbrev pub is_mark : ℕ → Bool
is_mark b = (b == 32) || (b == 43) || (b == 44) || (b == 58) || (b == 91) || (b == 93)

-- no name or number stands right after another, each name is digits and capital letters, and each sign is one of the
-- six of `is_mark`. `behind` says whether a name or number stands right before the pieces
abbrev pub parted : Bool → List Piece → Bool
parted behind [] = true
parted true (name w ∷ ps) = false
parted true (byte n ∷ ps) = false
parted true (word n ∷ ps) = false
parted false (name w ∷ ps) = is_name w && parted true ps
parted false (byte n ∷ ps) = parted true ps
parted false (word n ∷ ps) = parted true ps
parted behind (sign b ∷ ps) = is_mark b && parted false ps
