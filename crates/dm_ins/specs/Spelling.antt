-- Which bytes spell an action, alone and after prefixes: a relation that goes from instructions to
-- bytes, with one line for each form of operand. Bytes are numbers below 2 ^ 8, words below 2 ^ 16.
-- Source: Intel 8086 Family User's Manual, section 2.7 (prefixes) and section 4, "Machine Instruction
-- Encoding and Decoding", with tables 4-7 to 4-11 (fields of the first bytes).
use Rattle.std.specs.Prelude.{◌≡◌, ◌≢◌, ℕ, ◌+◌, ◌*◌, ◌/◌, ◌%◌, ◌^◌, ◌<◌, Bool, true, false, ◌⊎◌, List, [], ◌∷◌, ◌++◌, Option, Some, None, slice_index_or, nat_lt, if◌then◌else◌, length, ◌≤◌, map}
use Rattle.dm_ins.specs.declared.operand.Width.{Width}
use Rattle.dm_ins.specs.declared.operand.Width.TheVariants.{Byte, Word}
use Rattle.dm_ins.specs.declared.operand.WordRegister.TheVariants.{Ax}
use Rattle.dm_ins.specs.declared.operand.ByteRegister.TheVariants.{Al}
use Rattle.dm_ins.specs.declared.operand.SegmentRegister.{SegmentRegister}
use Rattle.dm_ins.specs.declared.operand.SegmentRegister.TheVariants.{Es, Cs, Ss, Ds}
use Rattle.dm_ins.specs.declared.operand.Base.TheVariants.{Direct, BxSi}
use Rattle.dm_ins.specs.declared.operand.Address.{Address}
use Rattle.dm_ins.specs.declared.operand.Operand.{Operand}
use Rattle.dm_ins.specs.declared.operand.Operand.TheVariants as operand
use Rattle.dm_ins.specs.declared.prefix.Repeat.{Repeat}
use Rattle.dm_ins.specs.declared.prefix.Repeat.TheVariants.{NotEqual, Equal}
use Rattle.dm_ins.specs.declared.prefix.Prefix.{Prefix}
use Rattle.dm_ins.specs.declared.prefix.Prefix.TheVariants as prefix
use Rattle.dm_ins.specs.declared.prefix.Prefixes.{Prefixes}
use Rattle.dm_ins.specs.declared.action.Action.{Action}
use Rattle.dm_ins.specs.declared.fields.Fields.{Fields}
use Rattle.dm_ins.specs.declared.table.OperandKind.{OperandKind}
use Rattle.dm_ins.specs.declared.table.OperandKind.TheVariants as is
use Rattle.dm_ins.specs.declared.table.Template.{Template}
use Rattle.dm_ins.specs.declared.table.OpcodeEntry.{OpcodeEntry}
use Rattle.dm_ins.specs.declared.table.OpcodeEntry.TheVariants.{Unlisted, Plain, Group, Second}
use Rattle.dm_ins.specs.Registers.{bases}
use Rattle.dm_ins.specs.Table.{entry_of, member_of}
use Rattle.dm_ins.specs.Registers.{word_registers, byte_registers}

-- a word, the low byte first
abbrev pub word_bytes : ℕ → List ℕ
word_bytes n = n % 256 ∷ n / 256 ∷ []

-- a byte extended by sign to a word
abbrev pub sign_extended : ℕ → ℕ
sign_extended n = if nat_lt n 0x80 then n else n + 0xFF00

-- ---- prefixes

-- the byte of the prefix that overrides with a segment register
abbrev pub segment_byte : SegmentRegister → ℕ
segment_byte Es = 0x26
segment_byte Cs = 0x2E
segment_byte Ss = 0x36
segment_byte Ds = 0x3E

-- the byte of a repeat prefix: F2h of REPNE, F3h of REP and REPE
abbrev pub repeat_byte : Repeat → ℕ
repeat_byte NotEqual = 0xF2
repeat_byte Equal = 0xF3

-- the byte of a prefix: that of a segment override, F0h of LOCK, or that of a repeat prefix
abbrev pub prefix_byte : Prefix → ℕ
prefix_byte (prefix.Segment s) = segment_byte s
prefix_byte prefix.Lock = 0xF0
prefix_byte (prefix.Repeat r) = repeat_byte r

-- the prefixes of an instruction that has none
abbrev pub no_prefix : Prefixes
no_prefix = record { segment = None; lock = false; repeat = None }

-- the prefixes with one more, which takes the place of an earlier one of its kind
abbrev pub with_prefix : Prefixes → Prefix → Prefixes
with_prefix p (prefix.Segment s) = record p { segment = Some s }
with_prefix p prefix.Lock = record p { lock = true }
with_prefix p (prefix.Repeat r) = record p { repeat = Some r }

-- the prefixes that p and then a list leave: of each kind the last one
abbrev pub kept : Prefixes → List Prefix → Prefixes
kept p [] = p
kept p (x ∷ xs) = kept (with_prefix p x) xs

-- ---- the mod r/m byte

-- memory at the registers of an r/m field plus a displacement
abbrev pub based : ℕ → ℕ → Address
based rm n = record { base = slice_index_or bases rm BxSi; displacement = n }

-- memory at a displacement alone: a direct address
abbrev pub direct : ℕ → Address
direct n = record { base = Direct; displacement = n }

-- the mod field, the r/m field and the bytes of displacement of a memory operand, or (mod 3) of none;
-- in turn: a direct address, no displacement, one byte extended by sign, one word, a register
abbrev pub SpellsMemory : Option Address → ℕ → ℕ → List ℕ → Type 0
SpellsMemory a mode rm d =
    ((mode ≡ 0) × (rm ≡ 6) × (n : ℕ) × (n < 2 ^ 16) × (a ≡ Some (direct n)) × (d ≡ word_bytes n))
    ⊎ ((mode ≡ 0) × (rm ≢ 6) × (a ≡ Some (based rm 0)) × (d ≡ []))
    ⊎ ((mode ≡ 1) × (n : ℕ) × (n < 2 ^ 8) × (a ≡ Some (based rm (sign_extended n))) × (d ≡ n ∷ []))
    ⊎ ((mode ≡ 2) × (n : ℕ) × (n < 2 ^ 16) × (a ≡ Some (based rm n)) × (d ≡ word_bytes n))
    ⊎ ((mode ≡ 3) × (a ≡ None) × (d ≡ []))

-- the mod r/m byte: the mod field in bits 7 and 6, reg in 5 to 3, r/m in 2 to 0; then the displacement
pub record SpellsFields (f : Fields) (bytes : List ℕ) : Type 0 where
  pub mode : ℕ
  pub displacement : List ℕ
  pub register_fits : f.register < 8
  pub rm_fits : f.rm < 8
  pub spells_memory : SpellsMemory f.memory mode f.rm displacement
  pub parts : bytes ≡ (64 * mode + 8 * f.register + f.rm) ∷ displacement

-- ---- operands

-- the register of a width and a number
abbrev pub register : Width → ℕ → Operand
register Byte n = operand.ByteRegister (slice_index_or byte_registers n Al)
register Word n = operand.WordRegister (slice_index_or word_registers n Ax)

-- what the mod and r/m fields name: the memory operand, if there is one, else the register
abbrev pub at_place : Width → ℕ → Option Address → Operand
at_place w n None = register w n
at_place w n (Some a) = operand.Memory w a

-- an operand o of a kind, where the mod r/m byte has the fields m, and the bytes d that follow for it
-- (ESC's number has its upper three bits in the first byte and its lower three in the reg field)
abbrev pub Fills : OperandKind → Fields → Operand → List ℕ → Type 0
Fills is.Nothing m o d = (o ≡ operand.Nothing) × (d ≡ [])
Fills (is.RegisterOrMemory w) m o d = (o ≡ at_place w m.rm m.memory) × (d ≡ [])
Fills (is.Register w) m o d = (o ≡ register w m.register) × (d ≡ [])
Fills is.Memory m o d = (a : Address) × (m.memory ≡ Some a) × (o ≡ operand.Memory Word a) × (d ≡ [])
Fills is.ByteValue m o d = (n : ℕ) × (n < 2 ^ 8) × (o ≡ operand.ByteValue n) × (d ≡ n ∷ [])
Fills is.WordValue m o d = (n : ℕ) × (n < 2 ^ 16) × (o ≡ operand.WordValue n) × (d ≡ word_bytes n)
Fills is.SignedValue m o d = (n : ℕ) × (n < 2 ^ 8) × (o ≡ operand.WordValue (sign_extended n)) × (d ≡ n ∷ [])
Fills is.Short m o d = (n : ℕ) × (n < 2 ^ 8) × (o ≡ operand.Target (sign_extended n)) × (d ≡ n ∷ [])
Fills is.Near m o d = (n : ℕ) × (n < 2 ^ 16) × (o ≡ operand.Target n) × (d ≡ word_bytes n)
Fills (is.Direct w) m o d = (n : ℕ) × (n < 2 ^ 16) × (o ≡ operand.Memory w (direct n)) × (d ≡ word_bytes n)
Fills is.Far m o d = (n s : ℕ) × (n < 2 ^ 16) × (s < 2 ^ 16) × (o ≡ operand.FarTarget n s) ×
    (d ≡ word_bytes n ++ word_bytes s)
Fills (is.Escape r) m o d = (o ≡ operand.ByteValue (8 * (r % 8) + m.register)) × (d ≡ [])
Fills (is.Byte r) m o d = (o ≡ operand.ByteRegister r) × (d ≡ [])
Fills (is.Word r) m o d = (o ≡ operand.WordRegister r) × (d ≡ [])
Fills (is.TheSegment r) m o d = (o ≡ operand.SegmentRegister r) × (d ≡ [])
Fills is.One m o d = (o ≡ operand.One) × (d ≡ [])

-- ---- templates

-- whether an operand of the kind is read from the mod r/m byte, wholly or in part
abbrev pub uses_fields : OperandKind → Bool
uses_fields (is.RegisterOrMemory w) = true
uses_fields (is.Register w) = true
uses_fields is.Memory = true
uses_fields (is.Escape r) = true
uses_fields _ = false

-- whether the template has a mod r/m byte
abbrev pub has_fields : Template → Bool
has_fields r = if uses_fields r.first then true else uses_fields r.second

-- the fields of a template that uses none
abbrev pub no_fields : Fields
no_fields = record { register = 0; rm = 0; memory = None }

-- the mod r/m byte of a template that has one, and its displacement; no bytes for a template that has none
abbrev pub MaySpellFields : Bool → Fields → List ℕ → Type 0
MaySpellFields true m d = SpellsFields m d
MaySpellFields false m d = (m ≡ no_fields) × (d ≡ [])

-- the template r that a first byte's entry has where the mod r/m byte has the fields m, and the bytes d
-- between the first byte and the operands'
abbrev pub HasTemplate : OpcodeEntry → Fields → List ℕ → Template → Type 0
HasTemplate Unlisted m d r = ⊥
HasTemplate (Plain p) m d r = (r ≡ p) × MaySpellFields (has_fields p) m d
HasTemplate (Group g) m d r = (member_of g m.register ≡ Some r) × SpellsFields m d
HasTemplate (Second c p) m d r = (r ≡ p) × (m ≡ no_fields) × (d ≡ c ∷ [])

-- the bytes spell the action: the first byte of a template, its mod r/m byte or second byte, and then what its operands
-- need
pub record SpellsAction (a : Action) (bytes : List ℕ) : Type 0 where
  pub first_byte : ℕ
  pub fields : Fields
  pub template : Template
  pub behind : List ℕ
  pub first_part : List ℕ
  pub second_part : List ℕ
  pub has_template : HasTemplate (entry_of first_byte) fields behind template
  pub mnemonic : a.mnemonic ≡ template.mnemonic
  pub first : Fills template.first fields a.first first_part
  pub second : Fills template.second fields a.second second_part
  pub parts : bytes ≡ first_byte ∷ behind ++ (first_part ++ second_part)

-- ---- prefixed actions

-- the bytes are at most four prefixes in any order, of which `left` are the last of each kind, and then spell the
-- action
pub record SpellsPrefixed (left : Prefixes) (a : Action) (bytes : List ℕ) : Type 0 where
  pub prefixes : List Prefix
  pub rest : List ℕ
  pub few : length prefixes ≤ 4
  pub keeps : left ≡ kept no_prefix prefixes
  pub action : SpellsAction a rest
  pub parts : bytes ≡ map prefix_byte prefixes ++ rest
