-- The search for the instruction that words are, as `read_encoded` makes it: a written operand may be up to four
-- operands, and each is tried (`Way`). For private contracts and proofs alone: public contracts speak of `AreWords`.
use Rattle.std.specs.Prelude.{◌≡◌, ℕ, ◌<◌, List, [], ◌∷◌, slice_index_or, if◌then◌else◌, Option, Some, None}
use Rattle.dm_ins.specs.declared.operand.Width.TheVariants as width
use Rattle.dm_ins.specs.declared.operand.Address.{Address}
use Rattle.dm_ins.specs.declared.operand.Operand.{Operand}
use Rattle.dm_ins.specs.declared.operand.Operand.TheVariants as operand
use Rattle.dm_ins.specs.declared.action.Action.{Action}
use Rattle.dm_ins.specs.Spelling.{SpellsAction}
use Rattle.dm_decode.specs.declared.words.written.Numeral.{Numeral}
use Rattle.dm_decode.specs.declared.words.written.Written.{Written}
use Rattle.dm_decode.specs.declared.words.written.Written.TheVariants as w
use Rattle.dm_decode.specs.declared.words.written.Words.{Words}
use Rattle.dm_decode.specs.declared.words.reading.Way.{Way}
use Rattle.dm_decode.specs.declared.words.reading.Way.TheVariants.{AsByte, AsWord, AsTarget, AsOne}
use Rattle.dm_decode.specs.words.Words.{word_before, word_written}

-- the ways to take a written operand, in the order in which they are tried
abbrev pub ways : List Way
ways = AsByte ∷ AsWord ∷ AsTarget ∷ AsOne ∷ []

-- an operand that can be taken in one way only: the operand itself in the first way, `AsByte`; None in any other way
abbrev pub first_way : Way → Operand → Option Operand
first_way AsByte o = Some o
first_way _ o = None

-- the memory operand at an address, taken in this way: that of a byte or of a word
abbrev pub memory_as : Way → Address → Option Operand
memory_as AsByte a = Some (operand.Memory width.Byte a)
memory_as AsWord a = Some (operand.Memory width.Word a)
memory_as _ a = None

-- the byte value, if the number can be a byte; otherwise None
abbrev pub byte_as : Option ℕ → Option Operand
byte_as None = None
byte_as (Some n) = Some (operand.ByteValue n)

-- the word value, if the number can be a word; otherwise None
abbrev pub word_as : Option ℕ → Option Operand
word_as None = None
word_as (Some n) = Some (operand.WordValue n)

-- the operand that a number is, taken in this way; None if it can't be taken so
abbrev pub number_as : Way → Numeral → Option Operand
number_as AsByte n = byte_as n.byte
number_as AsWord n = word_as n.word
number_as AsTarget n = Some (operand.Target n.distance)
number_as AsOne n = if n.is_one then Some operand.One else None

-- the operand that a written one is, taken in this way; None if it can't be taken so
unfoldable pub taken : Way → Written → Option Operand
taken v w.Nothing = first_way v operand.Nothing
taken v (w.ByteRegister r) = first_way v (operand.ByteRegister r)
taken v (w.WordRegister r) = first_way v (operand.WordRegister r)
taken v (w.SegmentRegister r) = first_way v (operand.SegmentRegister r)
taken v (w.Memory s a) = memory_as v a
taken v (w.Number n) = number_as v n
taken v (w.Far s n) = first_way v (operand.FarTarget n s)

-- the action with the mnemonic of the words and these operands
abbrev pub action_of : Words → Operand → Operand → Action
action_of words one two = record { mnemonic = words.mnemonic; first = one; second = two }

-- the size words before the written operands are those that the action asks for
pub record HaveWords (words : Words) (a : Action) : Type 0 where
  pub first_word : word_written words.first ≡ word_before a a.first
  pub second_word : word_written words.second ≡ word_before a a.second

-- the words are the action a if the first operand is taken in the way `way` and the second in the way `other`
pub record Taken (words : Words) (way other : Way) (a : Action) : Type 0 where
  pub mnemonic : a.mnemonic ≡ words.mnemonic
  pub first : taken way words.first ≡ Some a.first
  pub second : taken other words.second ≡ Some a.second
  pub have : HaveWords words a

-- with the operands taken in these ways, the words are no instruction of the table
abbrev pub IsNot : Words → Way → Way → Type 0
IsNot words way other = (a : Action) (b : List ℕ) → Taken words way other a → SpellsAction a b → ⊥

-- P holds of the first n ways
abbrev pub FirstWays : ℕ → (Way → Type 0) → Type 0
FirstWays n P = (k : ℕ) → k < n → P (slice_index_or ways k AsByte)
