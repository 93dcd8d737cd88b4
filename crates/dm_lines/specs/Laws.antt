-- Laws of lines (`tokens_of`, `line_statement`) and of their operands (`written_of`, `outline_of`): the text of every
-- instruction, and of data, is read as that instruction or data, and the numbers of a line fit words.
use Rattle.std.specs.Prelude.{◌≡◌, ℕ, ◌^◌, ◌<◌, ◌≤◌, ◌⊎◌, true, false, List, [], ◌∷◌, ◌++◌, length, map, Option, Some, None, codes, flat_map}
use Rattle.std.specs.List.{AllByRecursion}
use Rattle.dm_ins.specs.declared.operand.Operand.{Operand}
use Rattle.dm_ins.specs.declared.action.Mnemonic.{Mnemonic}
use Rattle.dm_ins.specs.declared.action.Action.{Action}
use Rattle.dm_ins.specs.declared.ins.Ins.{Ins}
use Rattle.dm_ins.specs.Spelling.{SpellsAction}
use Rattle.dm_decode.specs.Texts.{text_of}
use Rattle.dm_decode.specs.declared.words.written.Written.{Written}
use Rattle.dm_decode.specs.words.StandIns.{OperandStands}
use Rattle.dm_decode.specs.words.Own as read
use Rattle.dm_lines.specs.declared.term.Amount.{Amount}
use Rattle.dm_lines.specs.declared.term.Amount.TheVariants.{Plus, Minus}
use Rattle.dm_lines.specs.declared.term.Term.{Term}
use Rattle.dm_lines.specs.declared.term.Term.TheVariants as term
use Rattle.dm_lines.specs.Statements.{Item, Statement, nothing, instruction, bytes, words, line_statement}
use Rattle.dm_lines.specs.Placing.{written_of, outline_of}
use Rattle.dm_lines.specs.Own.{own_term, own_statement}
use Rattle.dm_decode.specs.Pieces.{Piece, name, byte, word, sign, byte_in_text, text_bytes, parted}
use Rattle.dm_lines.specs.declared.token.Token.{Token}
use Rattle.dm_lines.specs.declared.token.Token.TheVariants as t
use Rattle.dm_lines.specs.Tokens.{closed, then_list, sign_tokens, tokens_of}

-- ---- pieces of text

-- the tokens of a piece of text: one for a name, a number or a sign, none for a space; None if a name or a sign has
-- no token
abbrev pub piece_tokens : Piece → Option (List Token)
piece_tokens (name w) = closed w
piece_tokens (byte n) = Some (t.Number n ∷ [])
piece_tokens (word n) = Some (t.Number n ∷ [])
piece_tokens (sign b) = sign_tokens b

-- the tokens of the pieces, one after the other; None if a piece has no tokens
abbrev pub all_tokens : List Piece → Option (List Token)
all_tokens [] = Some []
all_tokens (p ∷ ps) = then_list (piece_tokens p) (all_tokens ps)

-- the number of a piece fits its size: a byte's is below 256, a word's below 65,536
abbrev pub PieceFits : Piece → Type 0
PieceFits (byte n) = n < 2 ^ 8
PieceFits (word n) = n < 2 ^ 16
PieceFits _ = Unit {0}

-- the number of each piece fits its size
abbrev pub AllFit : List Piece → Type 0
AllFit [] = Unit {0}
AllFit (p ∷ ps) = PieceFits p × AllFit ps

-- spaces, and then nothing, or a semicolon and any bytes: what may follow a statement on its line
abbrev pub IsComment : List ℕ → Type 0
IsComment [] = Unit {0}
IsComment (b ∷ bs) = (b ≡ 59) ⊎ ((b ≡ 32) × IsComment bs)

-- a text whose names and numbers stand apart, and whose numbers fit their sizes, has the tokens of its pieces, with a
-- comment after it too
abbrev pub PiecesAreRead : Type 0
PiecesAreRead = (ps : List Piece) (comment : List ℕ) → parted false ps ≡ true → AllFit ps → IsComment comment →
    tokens_of (text_bytes ps ++ comment) ≡ all_tokens ps

-- ---- instructions

-- the operand that an instruction's text is read as (`own_term`) is written as what that text shows (`shown_operand` of
-- `dm_decode::words`), wherever the instruction stands
abbrev pub OwnTermsAreWritten : Type 0
OwnTermsAreWritten = (a : Action) (next place : ℕ) (o : Operand) → written_of a.mnemonic (own_term a next o) place next
    ≡ Some (read.shown_operand a next o)

-- the number, without its sign, is below 65,536
abbrev pub AmountFits : Amount → Type 0
AmountFits (Plus n) = n < 2 ^ 16
AmountFits (Minus n) = n < 2 ^ 16

-- the numbers of an operand are below 65,536
abbrev pub TermFits : Term → Type 0
TermFits (term.Memory s b n) = AmountFits n
TermFits (term.Address s v) = AmountFits v.amount
TermFits (term.Number v) = AmountFits v.amount
TermFits (term.Far segment offset) = (segment < 2 ^ 16) × (offset < 2 ^ 16)
TermFits _ = Unit {0}

-- the outline of an operand whose numbers are below 65,536 can stand for what the operand is once its label has a
-- value: the instruction has as many bytes
abbrev pub OutlinesStand : Type 0
OutlinesStand = (m : Mnemonic) (t : Term) (place next : ℕ) (x : Written) → TermFits t →
    written_of m t place next ≡ Some x → OperandStands m (outline_of m t) x

-- the text of each instruction of the table is a line whose statement is that instruction, without a label
abbrev pub TextsAreRead : Type 0
TextsAreRead = (i : Ins) (bytes : List ℕ) (next : ℕ) → SpellsAction i.action bytes →
    line_statement (text_of i next) ≡ Some (own_statement i next)

-- the text has at most 63 bytes, and none is below 20h, so that no line end is among them
pub record IsPlain (text : List ℕ) : Type 0 where
  pub short : length text ≤ 63
  pub printed : AllByRecursion (λ b. 32 ≤ b) text

-- the text of each instruction, whether or not the table has it, is plain
abbrev pub TextsArePlain : Type 0
TextsArePlain = (i : Ins) (next : ℕ) → IsPlain (text_of i next)

-- ---- data

-- a DB line with these bytes as numbers, at least one, with commas between them
abbrev pub data_text : ℕ → List ℕ → List ℕ
data_text b bs = codes "DB " ++ byte_in_text b ++ flat_map (λ c. codes "," ++ byte_in_text c) bs

-- the statement of a DB line with these bytes and no label
abbrev pub data_statement : List ℕ → Statement
data_statement bs = record { label = None; item = bytes (map Plus bs) }

-- a DB line of bytes, at least one, is read as these bytes, with a comment after it too, if it has at most 255 bytes in
-- all
abbrev pub DataIsRead : Type 0
DataIsRead = (b : ℕ) (bs comment : List ℕ) → AllByRecursion (λ c. c < 2 ^ 8) (b ∷ bs) → IsComment comment →
    length (data_text b bs ++ comment) ≤ 255 → line_statement (data_text b bs ++ comment)
    ≡ Some (data_statement (b ∷ bs))

-- ---- numbers

-- the numbers of an instruction's operands, or of data, are below 65,536
abbrev pub ItemFits : Item → Type 0
ItemFits nothing = Unit {0}
ItemFits (instruction i) = TermFits i.first × TermFits i.second
ItemFits (bytes ns) = AllByRecursion AmountFits ns
ItemFits (words vs) = AllByRecursion (λ v. AmountFits v.amount) vs

-- the numbers in the statement of each line are below 65,536
abbrev pub NumbersFit : Type 0
NumbersFit = (line : List ℕ) (s : Statement) → AllByRecursion (λ b. b < 2 ^ 8) line → line_statement line ≡ Some s →
    ItemFits s.item
