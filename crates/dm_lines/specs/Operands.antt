-- The operands of an instruction, by their tokens. None says that the tokens are no operand.
-- Source: Intel 8086 Family User's Manual, section 2.8 (addressing modes) and section 2.9 (how ASM-86 writes them);
-- that parts of an address stand in one order, and which signs are left out, is this machine's own.
use Rattle.std.specs.Prelude.{ℕ, ◌-◌, ◌%◌, Bool, true, false, List, [], ◌∷◌, Option, Some, None, nat_le, if◌then◌else◌, option_map}
use Rattle.dm_ins.specs.declared.operand.WordRegister.TheVariants.{Bx, Bp, Si, Di}
use Rattle.dm_ins.specs.declared.operand.Base.{Base}
use Rattle.dm_ins.specs.declared.operand.Base.TheVariants.{BxSi, BxDi, BpSi, BpDi, OnSi, OnDi, OnBp, OnBx}
use Rattle.dm_ins.specs.Walks.{◌>>=◌}
use Rattle.dm_decode.specs.declared.words.written.Size.{Size}
use Rattle.dm_decode.specs.declared.words.written.Size.TheVariants.{Absent}
use Rattle.dm_lines.specs.declared.token.Token.{Token}
use Rattle.dm_lines.specs.declared.token.Token.TheVariants as t
use Rattle.dm_lines.specs.declared.term.Amount.{Amount}
use Rattle.dm_lines.specs.declared.term.Amount.TheVariants.{Plus, Minus}
use Rattle.dm_lines.specs.declared.term.Expression.{Expression}
use Rattle.dm_lines.specs.declared.term.Term.{Term}
use Rattle.dm_lines.specs.declared.term.Term.TheVariants as term

-- ---- numbers and labels

-- the number -n; None below -8000h
abbrev pub minus : ℕ → Option Amount
minus n = if nat_le n 0x8000 then Some (Minus n) else None

-- the number that the tokens are, with a - before it or none
abbrev pub amount_of : List Token → Option Amount
amount_of (t.Number n ∷ []) = Some (Plus n)
amount_of (t.Minus ∷ t.Number n ∷ []) = minus n
amount_of _ = None

-- the number that is added to a label or to registers: after + a number, with - before it or none, after - a number,
-- which is taken away; 0 without tokens
abbrev pub added_of : List Token → Option Amount
added_of [] = Some (Plus 0)
added_of (t.Plus ∷ ts) = amount_of ts
added_of (t.Minus ∷ t.Number n ∷ []) = minus n
added_of _ = None

-- the value that the tokens are: a number, or a label and a number that is added to it
abbrev pub parsed_value : List Token → Option Expression
parsed_value (t.Name l ∷ ts) = option_map (λ n. record { label = Some l; amount = n }) (added_of ts)
parsed_value ts = option_map (λ n. record { label = None; amount = n }) (amount_of ts)

-- the word of a number, modulo 10000h
abbrev pub amount_word : Amount → ℕ
amount_word (Plus n) = n
amount_word (Minus n) = (65536 - n) % 65536

-- ---- memory

-- the registers at the front of an address, a base or an index or both in this order, and the tokens after them
unfoldable pub base_at : List Token → Option (Base × List Token)
base_at (t.Word Bx ∷ t.Plus ∷ t.Word Si ∷ ts) = Some (BxSi, ts)
base_at (t.Word Bx ∷ t.Plus ∷ t.Word Di ∷ ts) = Some (BxDi, ts)
base_at (t.Word Bp ∷ t.Plus ∷ t.Word Si ∷ ts) = Some (BpSi, ts)
base_at (t.Word Bp ∷ t.Plus ∷ t.Word Di ∷ ts) = Some (BpDi, ts)
base_at (t.Word Si ∷ ts) = Some (OnSi, ts)
base_at (t.Word Di ∷ ts) = Some (OnDi, ts)
base_at (t.Word Bp ∷ ts) = Some (OnBp, ts)
base_at (t.Word Bx ∷ ts) = Some (OnBx, ts)
base_at _ = None

-- the memory operand with these registers, if there are any, and the number added to them; else with a number or
-- label
abbrev pub based_term : Size → Option (Base × List Token) → List Token → Option Term
based_term s (Some b) ts = option_map (term.Memory s b.0) (added_of b.1)
based_term s None ts = option_map (term.Address s) (parsed_value ts)

-- the memory operand with these tokens between its brackets and this size word before them
abbrev pub memory_operand : Size → List Token → Option Term
memory_operand s ts = based_term s (base_at ts) ts

-- a token in front of those that `inside` finds between brackets; None without them
abbrev pub onto : Token → Option (List Token) → Option (List Token)
onto t None = None
onto t (Some ts) = Some (t ∷ ts)

-- the token is ], which ends an address
abbrev pub is_close : Token → Bool
is_close t.Close = true
is_close _ = false

-- the tokens before the last one, which has to be ]
abbrev pub inside : List Token → Option (List Token)
inside [] = None
inside (t ∷ []) = if is_close t then Some [] else None
inside (t ∷ u ∷ ts) = onto t (inside (u ∷ ts))

-- the memory operand with these tokens after its opening bracket; the last token closes it
abbrev pub memory_of : Size → List Token → Option Term
memory_of s ts = do
  inner ← inside ts
  memory_operand s inner

-- ---- operands

-- the far pointer of this segment, with its offset in these tokens
abbrev pub far_pointer : Amount → List Token → Option Term
far_pointer segment ts = option_map (λ offset. term.Far (amount_word segment) (amount_word offset)) (amount_of ts)

-- the operand that starts with a number or a label: a far pointer, a number and a number with a colon between them,
-- or a value
abbrev pub term_from_number : List Token → Option Term
term_from_number (t.Number n ∷ t.Colon ∷ ts) = far_pointer (Plus n) ts
term_from_number (t.Minus ∷ t.Number n ∷ t.Colon ∷ ts) = do
  segment ← minus n
  far_pointer segment ts
term_from_number ts = option_map term.Number (parsed_value ts)

-- the operand that the tokens are: a register, memory, a far pointer, a number or a label
unfoldable pub term_of : List Token → Option Term
term_of (t.Byte r ∷ []) = Some (term.ByteRegister r)
term_of (t.Word r ∷ []) = Some (term.WordRegister r)
term_of (t.Segment r ∷ []) = Some (term.SegmentRegister r)
term_of (t.Size s ∷ t.Open ∷ ts) = memory_of s ts
term_of (t.Open ∷ ts) = memory_of Absent ts
term_of ts = term_from_number ts

-- ---- commas part operands, and the items of data

-- a token in front of the first of the parts between commas; a part of its own if there is none
abbrev pub begin : Token → List (List Token) → List (List Token)
begin t [] = (t ∷ []) ∷ []
begin t (p ∷ ps) = (t ∷ p) ∷ ps

-- the token is a comma, which parts operands and items of data
abbrev pub is_comma : Token → Bool
is_comma t.Comma = true
is_comma _ = false

-- the tokens between the commas; without a comma one part
abbrev pub parts : List Token → List (List Token)
parts [] = [] ∷ []
parts (t ∷ ts) = if is_comma t then [] ∷ parts ts else begin t (parts ts)

-- the operands of one or two parts; the second is `Nothing` for one part
abbrev pub term_pair : List (List Token) → Option (Term × Term)
term_pair (p ∷ []) = option_map (λ x. (x, term.Nothing)) (term_of p)
term_pair (p ∷ q ∷ []) = do
  x ← term_of p
  y ← term_of q
  Some (x, y)
term_pair _ = None

-- the operands of an instruction, by the tokens after its mnemonic; `Nothing` twice if there are none
abbrev pub terms_of : List Token → Option (Term × Term)
terms_of [] = Some (term.Nothing, term.Nothing)
terms_of ts = term_pair (parts ts)
