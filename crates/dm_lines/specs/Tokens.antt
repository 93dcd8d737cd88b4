-- The tokens of a line: words, numbers, signs and quoted text. None says that the bytes are no tokens.
-- Source: Intel 8086 Family User's Manual, section 2.9 (statements, names and constants of ASM-86); the bounds of
-- names and numbers are this machine's own.
use Rattle.std.specs.Prelude.{ℕ, ◌+◌, ◌-◌, ◌*◌, Bool, true, false, not, ◌&&◌, ◌||◌, ◌==◌, List, [], ◌∷◌, ◌++◌, length, Option, Some, None, nat_le, if◌then◌else◌, replicate, take, drop, slice_index, option_map}
use Rattle.dm_ins.specs.Walks.{◌>>=◌}
use Rattle.dm_lines.specs.Words.{reserved}
use Rattle.dm_lines.specs.declared.token.Name as Name'
use Rattle.dm_lines.specs.declared.token.Token.{Token}
use Rattle.dm_lines.specs.declared.token.Token.TheVariants.{Name, Number, Comma, Colon, Plus, Minus, Open, Close, Quote, Letter}

-- ---- bytes

-- the capital letter of a small one; any other byte as it is
abbrev pub uppercase : ℕ → ℕ
uppercase b = if nat_le 97 b && nat_le b 122 then b - 32 else b

-- the byte is one of a word: a letter, a digit or _
abbrev pub is_word_byte : ℕ → Bool
is_word_byte b = (nat_le 65 b && nat_le b 90) || (nat_le 97 b && nat_le b 122) || (nat_le 48 b && nat_le b 57) ||
    b == 95

-- the value of a hexadecimal digit, 0 to 9 or A to F
abbrev pub digit_of : ℕ → Option ℕ
digit_of b = if nat_le 48 b && nat_le b 57 then Some (b - 48) else if nat_le 65 b && nat_le b 70 then Some (b - 55) else
    None

-- ---- words, in upper case

-- the number that the digits spell in this base, where the digits before them spell n; None for 65,536 and over, or
-- for a byte that is no digit of the base
abbrev pub magnitude_of : ℕ → ℕ → List ℕ → Option ℕ
magnitude_of base n [] = Some n
magnitude_of base n (b ∷ bs) = do
  d ← digit_of b
  if nat_le base d then None else if nat_le 65536 (n * base + d) then None else magnitude_of base (n * base + d) bs

-- the number that a word that begins with a digit spells: hexadecimal with an H at the end, else decimal; None if it
-- spells none
abbrev pub number_of : List ℕ → Option ℕ
number_of w = if slice_index w (length w - 1) == 72 then magnitude_of 16 0 (take (length w - 1) w) else
    magnitude_of 10 0 w

-- a word of at most 31 bytes as a name of a label: zeros follow it up to 31 bytes
abbrev pub padded_of : List ℕ → Name'.Name
padded_of w = record { bytes = w ++ drop (length w) (replicate 31 0) }

-- the token of a reserved word, else the name of a label; None for one of over 31 bytes
abbrev pub or_name : List ℕ → Option Token → Option Token
or_name w (Some t) = Some t
or_name w None = if nat_le (length w) 31 then Some (Name (padded_of w)) else None

-- the token of a word in upper case: a number if it begins with a digit, else a reserved word, else the name of a
-- label; None for a bad number, or a name of over 31 bytes
unfoldable pub word_token : List ℕ → Option Token
word_token w =
    if nat_le 48 (slice_index w 0) && nat_le (slice_index w 0) 57 then (do
      n ← number_of w
      Some (Number n))
    else or_name w (reserved w)

-- ---- lines

-- the token of the word w, which has ended, as a list; no token for an empty w, and None if w is no word
abbrev pub closed : List ℕ → Option (List Token)
closed [] = Some []
closed (b ∷ w) = option_map (λ t. t ∷ []) (word_token (b ∷ w))

-- the elements xs, as tokens of a line or values of a DB or DW, in front of those behind them; None without those
abbrev pub joined_to : {A : Type 0} → List A → Option (List A) → Option (List A)
joined_to xs None = None
joined_to xs (Some ys) = Some (xs ++ ys)

-- two lists joined; None if one is missing
abbrev pub then_list : {A : Type 0} → Option (List A) → Option (List A) → Option (List A)
then_list None r = None
then_list (Some xs) r = joined_to xs r

-- the token of a byte between words: none for a tab or a space, else that of a sign; None for another byte
abbrev pub sign_tokens : ℕ → Option (List Token)
sign_tokens b =
    if b == 9 || b == 32 then Some []
    else if b == 39 then Some (Quote ∷ [])
    else if b == 43 then Some (Plus ∷ [])
    else if b == 44 then Some (Comma ∷ [])
    else if b == 45 then Some (Minus ∷ [])
    else if b == 58 then Some (Colon ∷ [])
    else if b == 91 then Some (Open ∷ [])
    else if b == 93 then Some (Close ∷ [])
    else None

-- the token of a byte of quoted text: the quote that ends it, or a letter
abbrev pub inside_quotes : ℕ → Token
inside_quotes b = if b == 39 then Quote else Letter b

-- the tokens of the bytes that are left of a line, inside quotes (true) or outside, with w the word so far. A quoted
-- text has to end, and a semicolon outside ends the line
abbrev pub lexed : Bool → List ℕ → List ℕ → Option (List Token)
lexed true w [] = None
lexed true w (b ∷ bs) = joined_to (inside_quotes b ∷ []) (lexed (not (b == 39)) w bs)
lexed false w [] = closed w
lexed false w (b ∷ bs) =
    if is_word_byte b then lexed false (w ++ uppercase b ∷ []) bs
    else if b == 59 then closed w
    else then_list (closed w) (then_list (sign_tokens b) (lexed (b == 39) [] bs))

-- the tokens of a line up to its comment; None if a byte or a word is no token, or a quoted text does not end
unfoldable pub tokens_of : List ℕ → Option (List Token)
tokens_of line = lexed false [] line
