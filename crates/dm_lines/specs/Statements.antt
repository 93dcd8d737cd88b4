-- The statement of a line: a label, and an instruction or data. None says that the tokens, or the line, are none.
-- Source: Intel 8086 Family User's Manual, section 2.9 (statements of ASM-86); which of its forms there are is this
-- machine's own (docs/DECISIONS.md).
use Rattle.std.specs.Prelude.{ℕ, Bool, true, false, List, [], ◌∷◌, ◌++◌, length, Option, Some, None, is_some, nat_lt, if◌then◌else◌, option_map}
use Rattle.dm_ins.specs.declared.operand.WordRegister.TheVariants.{Ax}
use Rattle.dm_ins.specs.declared.action.Mnemonic.{Mnemonic}
use Rattle.dm_ins.specs.declared.action.Mnemonic.TheVariants as op
use Rattle.dm_ins.specs.declared.prefix.Prefixes.{Prefixes}
use Rattle.dm_ins.specs.Spelling.{no_prefix}
use Rattle.dm_ins.specs.Walks.{◌>>=◌}
use Rattle.dm_lines.specs.declared.token.Name as Name'
use Rattle.dm_lines.specs.declared.token.Token.{Token}
use Rattle.dm_lines.specs.declared.token.Token.TheVariants as t
use Rattle.dm_lines.specs.declared.term.Amount.{Amount}
use Rattle.dm_lines.specs.declared.term.Amount.TheVariants.{Plus}
use Rattle.dm_lines.specs.declared.term.Expression.{Expression}
use Rattle.dm_lines.specs.declared.term.Term.{Term}
use Rattle.dm_lines.specs.declared.term.Term.TheVariants as term
use Rattle.dm_lines.specs.declared.statement.Instruction.{Instruction}
use Rattle.dm_lines.specs.declared.statement.Items.{Items}
use Rattle.dm_lines.specs.declared.statement.Item as Item'
use Rattle.dm_lines.specs.declared.statement.Item.TheVariants as code
use Rattle.dm_lines.specs.declared.statement.Statement as Statement'
use Rattle.dm_lines.specs.Tokens.{tokens_of, joined_to, then_list}
use Rattle.dm_lines.specs.Operands.{amount_of, parsed_value, parts, terms_of}

-- what stands on a line after its label: nothing, an instruction, the bytes of a DB, or the words of a DW
pub data Item : Type 0 where
  nothing : Item
  instruction : Instruction → Item
  bytes : List Amount → Item
  words : List Expression → Item

-- what a line stands for: its label, if it has one, and its item
pub record Statement : Type 0 where
  pub label : Option Name'.Name
  pub item : Item

-- the `Item` of the code, with the data in `Items`, as contracts see it
abbrev pub seen_item : Items → Item'.Item → Item
seen_item d code.Nothing = nothing
seen_item d (code.Instruction i) = instruction i
seen_item d code.Bytes = bytes d.bytes.items
seen_item d code.Words = words d.words.items

-- the `Statement` of the code, with the data in `Items`, as contracts see it
abbrev pub seen_statement : Items → Statement'.Statement → Statement
seen_statement d s = record { label = s.label; item = seen_item d s.item }

-- ---- data

-- the list of this element, the number of a DB or the value of a DW; None without it
abbrev pub list_of_one : {A : Type 0} → Option A → Option (List A)
list_of_one None = None
list_of_one (Some x) = Some (x ∷ [])

-- the bytes of a quoted text, by the tokens after its first quote, up to the quote that ends it
abbrev pub letters : List Token → Option (List Amount)
letters (t.Quote ∷ []) = Some []
letters (t.Letter b ∷ ts) = joined_to (Plus b ∷ []) (letters ts)
letters _ = None

-- the bytes of one item of a DB: a number, or a text between quotes
abbrev pub bytes_item : List Token → Option (List Amount)
bytes_item (t.Quote ∷ ts) = letters ts
bytes_item ts = list_of_one (amount_of ts)

-- the bytes of all items of a DB, one after the other
abbrev pub byte_items : List (List Token) → Option (List Amount)
byte_items [] = Some []
byte_items (p ∷ ps) = then_list (bytes_item p) (byte_items ps)

-- the words of all items of a DW, each a number, or a label and a number that is added to it
abbrev pub word_items : List (List Token) → Option (List Expression)
word_items [] = Some []
word_items (p ∷ ps) = then_list (list_of_one (parsed_value p)) (word_items ps)

-- ---- instructions

-- the mnemonic that SHORT after this one makes: JMP SHORT
abbrev pub short_of : Mnemonic → Option Mnemonic
short_of op.Jmp = Some op.JmpShort
short_of _ = None

-- the mnemonic that FAR after this one makes: JMP FAR or CALL FAR
abbrev pub far_mnemonic : Mnemonic → Option Mnemonic
far_mnemonic op.Jmp = Some op.JmpFar
far_mnemonic op.Call = Some op.CallFar
far_mnemonic _ = None

-- the mnemonic of one or two words at the front, and the tokens after it
abbrev pub mnemonic_at : List Token → Option (Mnemonic × List Token)
mnemonic_at (t.Mnemonic m ∷ t.Short ∷ ts) = option_map (λ j. (j, ts)) (short_of m)
mnemonic_at (t.Mnemonic m ∷ t.Far ∷ ts) = option_map (λ j. (j, ts)) (far_mnemonic m)
mnemonic_at (t.Mnemonic m ∷ ts) = Some (m, ts)
mnemonic_at _ = None

-- the prefixes p with those of the words at the front, in any order and at most one of each kind, and the tokens
-- after them
abbrev pub prefixed : Prefixes → List Token → Option (Prefixes × List Token)
prefixed p (t.Segment r ∷ ts) = if is_some p.segment then None else prefixed (record p { segment = Some r }) ts
prefixed p (t.Lock ∷ ts) = if p.lock then None else prefixed (record p { lock = true }) ts
prefixed p (t.Repeat r ∷ ts) = if is_some p.repeat then None else prefixed (record p { repeat = Some r }) ts
prefixed p ts = Some (p, ts)

-- the operand is memory
abbrev pub is_memory : Term → Bool
is_memory (term.Memory s b n) = true
is_memory (term.Address s v) = true
is_memory _ = false

-- the mnemonic is XCHG or TEST, whose operands may be written in either order
abbrev pub exchanges : Mnemonic → Bool
exchanges op.Xchg = true
exchanges op.Test = true
exchanges _ = false

-- the instruction with these operands; of XCHG and TEST a memory operand is put first
abbrev pub with_terms : Prefixes → Mnemonic → Term → Term → Instruction
with_terms p m x y =
    if (if exchanges m then is_memory y else false)
    then record { prefixes = p; mnemonic = m; first = y; second = x }
    else record { prefixes = p; mnemonic = m; first = x; second = y }

-- the instruction that the tokens after its prefix words are, a mnemonic and its operands
abbrev pub operated : Prefixes → List Token → Option Instruction
operated p ts = do
  m ← mnemonic_at ts
  xs ← terms_of m.1
  Some (with_terms p m.0 xs.0 xs.1)

-- the instruction that the tokens after its prefix words are; NOP is XCHG AX,AX
abbrev pub after_prefixes : Prefixes → List Token → Option Instruction
after_prefixes p (t.Nop ∷ []) = Some (record {
  prefixes = p;
  mnemonic = op.Xchg;
  first = term.WordRegister Ax;
  second = term.WordRegister Ax;
})
after_prefixes p ts = operated p ts

-- the instruction that the tokens are: prefix words, a mnemonic and its operands
abbrev pub instruction_of : List Token → Option Instruction
instruction_of ts = do
  p ← prefixed no_prefix ts
  after_prefixes p.0 p.1

-- ---- lines

-- what the tokens after a label are: nothing, the data of DB or DW, or an instruction
abbrev pub item_of : List Token → Option Item
item_of [] = Some nothing
item_of (t.DataBytes ∷ ts) = option_map bytes (byte_items (parts ts))
item_of (t.DataWords ∷ ts) = option_map words (word_items (parts ts))
item_of ts = option_map instruction (instruction_of ts)

-- the statement that the tokens of a line are
abbrev pub statement_of : List Token → Option Statement
statement_of (t.Name l ∷ t.Colon ∷ ts) = option_map (λ i. record { label = Some l; item = i }) (item_of ts)
statement_of ts = option_map (λ i. record { label = None; item = i }) (item_of ts)

-- the statement that a line of at most 255 bytes stands for; None for a longer one, too
unfoldable pub line_statement : List ℕ → Option Statement
line_statement line = if nat_lt 255 (length line) then None else tokens_of line >>= statement_of
