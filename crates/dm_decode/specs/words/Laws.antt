-- Laws of written instructions (`AreWords`, `StandsFor`): the words of a line are one instruction at most, the text of
-- an instruction is read as that instruction, and words for values that are not known yet have the same length.
use Rattle.std.specs.Prelude.{◌≡◌, ℕ, ◌^◌, ◌<◌, List, [], ◌∷◌, length, codes}
use Rattle.dm_ins.specs.declared.operand.Width.{Width}
use Rattle.dm_ins.specs.declared.action.Action.{Action}
use Rattle.dm_ins.specs.declared.ins.Ins.{Ins}
use Rattle.dm_ins.specs.Spelling.{SpellsAction}
use Rattle.dm_ins.specs.Preferred.{IsPreferred}
use Rattle.dm_decode.specs.Pieces.{Piece, name, space_sign}
use Rattle.dm_decode.specs.Texts.{size_pieces}
use Rattle.dm_decode.specs.declared.words.written.Size.{Size}
use Rattle.dm_decode.specs.declared.words.written.Size.TheVariants.{Absent, Byte, Word, Near}
use Rattle.dm_decode.specs.declared.words.written.Words.{Words}
use Rattle.dm_decode.specs.words.Words.{AreWords, size_word}
use Rattle.dm_decode.specs.words.Own.{words_of_action}
use Rattle.dm_decode.specs.words.StandIns.{StandsFor}

-- written words are at most one instruction of the instruction table
abbrev pub WordsAreOne : Type 0
WordsAreOne = (words : Words) (a b : Action) (x y : List ℕ) → AreWords words a → AreWords words b → SpellsAction a x →
    SpellsAction b y → a ≡ b

-- ---- the words of an instruction's text

-- the words that the text of an instruction of the table shows are that instruction, wherever it stands
abbrev pub OwnWordsAreRead : Type 0
OwnWordsAreRead = (a : Action) (next : ℕ) (x : List ℕ) → next < 2 ^ 16 → SpellsAction a x →
    AreWords (words_of_action a next) a

-- a size word as the text of an instruction has it, with a space after it
abbrev pub word_pieces : Size → List Piece
word_pieces Absent = []
word_pieces Byte = name (codes "BYTE") ∷ space_sign ∷ []
word_pieces Word = name (codes "WORD") ∷ space_sign ∷ []
word_pieces Near = name (codes "NEAR") ∷ space_sign ∷ []

-- the word that has to be written before a memory operand is the one that the text of the instruction has there
abbrev pub SizesAreShown : Type 0
SizesAreShown = (a : Action) (v : Width) → size_pieces a v ≡ word_pieces (size_word a v)

-- ---- words that stand for others

-- where words are an instruction of the table, words that stand for them are one too
abbrev pub StandInsAreRead : Type 0
StandInsAreRead = (stand words : Words) (a : Action) (x : List ℕ) → StandsFor stand words → AreWords words a →
    SpellsAction a x → (b : Action) × (y : List ℕ) × AreWords stand b × SpellsAction b y

-- the instruction of words that stand for others has as many bytes as the instruction of these others, with the same
-- prefixes and in the encodings that `encode` chooses
abbrev pub LengthsAreKnown : Type 0
LengthsAreKnown = (stand words : Words) (i j : Ins) (x y : List ℕ) → StandsFor stand words → AreWords stand i.action →
    AreWords words j.action → i.prefixes ≡ j.prefixes → IsPreferred i x → IsPreferred j y → length x ≡ length y
