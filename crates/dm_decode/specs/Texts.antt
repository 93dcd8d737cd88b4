-- The text of an instruction: its prefix words, its mnemonic, and its operands.
-- Source: Intel 8086 Family User's Manual, section 2.7 (instructions) and section 2.8 (addressing modes), for
-- mnemonics, operands and their order; how sizes, numbers and targets are written is this machine's own
-- (docs/DECISIONS.md).
use Rattle.std.specs.Prelude.{ℕ, ◌+◌, ◌%◌, Bool, true, false, ◌==◌, List, [], ◌∷◌, ◌++◌, Option, Some, None, if◌then◌else◌, codes}
use Rattle.dm_ins.specs.declared.operand.Width.{Width}
use Rattle.dm_ins.specs.declared.operand.Width.TheVariants.{Byte, Word}
use Rattle.dm_ins.specs.declared.operand.WordRegister.{WordRegister}
use Rattle.dm_ins.specs.declared.operand.WordRegister.TheVariants.{Ax, Bx, Bp, Si, Di}
use Rattle.dm_ins.specs.declared.operand.SegmentRegister.{SegmentRegister}
use Rattle.dm_ins.specs.declared.operand.Base.{Base}
use Rattle.dm_ins.specs.declared.operand.Base.TheVariants.{Direct, BxSi, BxDi, BpSi, BpDi, OnSi, OnDi, OnBp, OnBx}
use Rattle.dm_ins.specs.declared.operand.Address.{Address}
use Rattle.dm_ins.specs.declared.operand.Operand.{Operand}
use Rattle.dm_ins.specs.declared.operand.Operand.TheVariants as operand
use Rattle.dm_ins.specs.declared.action.Mnemonic.{Mnemonic}
use Rattle.dm_ins.specs.declared.action.Mnemonic.TheVariants as op
use Rattle.dm_ins.specs.declared.prefix.Repeat.{Repeat}
use Rattle.dm_ins.specs.declared.prefix.Repeat.TheVariants.{NotEqual, Equal}
use Rattle.dm_ins.specs.declared.prefix.Prefixes.{Prefixes}
use Rattle.dm_ins.specs.declared.action.Action.{Action}
use Rattle.dm_ins.specs.declared.ins.Ins.{Ins}
use Rattle.dm_decode.specs.Names.{name_of, byte_name, word_name, segment_name}
use Rattle.dm_decode.specs.Pieces.{Piece, name, byte, word, space_sign, plus, comma, colon, left_bracket, right_bracket, text_bytes}

-- ---- memory

-- a base and an index register with a + between them
abbrev pub register_pair : WordRegister → WordRegister → List Piece
register_pair r s = name (word_name r) ∷ plus ∷ name (word_name s) ∷ []

-- the registers of an address, without its brackets; a direct address has none
abbrev pub base_pieces : Base → List Piece
base_pieces Direct = []
base_pieces BxSi = register_pair Bx Si
base_pieces BxDi = register_pair Bx Di
base_pieces BpSi = register_pair Bp Si
base_pieces BpDi = register_pair Bp Di
base_pieces OnSi = name (word_name Si) ∷ []
base_pieces OnDi = name (word_name Di) ∷ []
base_pieces OnBp = name (word_name Bp) ∷ []
base_pieces OnBx = name (word_name Bx) ∷ []

-- the displacement after the registers of an address, with a + before it; nothing for 0
abbrev pub displacement_pieces : ℕ → List Piece
displacement_pieces n = if n == 0 then [] else plus ∷ word n ∷ []

-- what stands between the brackets of a memory operand: registers and displacement; of a direct address its
-- displacement alone, also where it is 0
abbrev pub address_pieces : Address → List Piece
address_pieces a = elim a.base [
  | Direct ↦ word a.displacement ∷ []
  | _ ↦ base_pieces a.base
      ++ displacement_pieces a.displacement
]

-- the mnemonic is that of a shift or rotate
abbrev pub is_shift : Mnemonic → Bool
is_shift op.Rol = true
is_shift op.Ror = true
is_shift op.Rcl = true
is_shift op.Rcr = true
is_shift op.Shl = true
is_shift op.Shr = true
is_shift op.Sar = true
is_shift _ = false

-- the operand is a byte or word register
abbrev pub is_general : Operand → Bool
is_general (operand.ByteRegister r) = true
is_general (operand.WordRegister r) = true
is_general _ = false

-- the action has a general register as an operand, which gives the size of the other; CL as the count of a shift gives
-- none
abbrev pub gives_size : Action → Bool
gives_size a = if is_general a.first then true else if is_shift a.mnemonic then false else is_general a.second

-- the word that says the size of memory: BYTE or WORD
abbrev pub width_word : Width → List ℕ
width_word Byte = codes "BYTE"
width_word Word = codes "WORD"

-- the size word of an action: NEAR for a jump or call by memory, none for a far one, which has FAR in its name; for any
-- other mnemonic s
abbrev pub jump_pieces : Mnemonic → List Piece → List Piece
jump_pieces op.CallFar s = []
jump_pieces op.JmpFar s = []
jump_pieces op.Call s = name (codes "NEAR") ∷ space_sign ∷ []
jump_pieces op.Jmp s = name (codes "NEAR") ∷ space_sign ∷ []
jump_pieces m s = s

-- the word before a memory operand with a space after it: BYTE or WORD where no general register gives the size, NEAR
-- for jumps and calls
abbrev pub size_pieces : Action → Width → List Piece
size_pieces a w = jump_pieces a.mnemonic (if gives_size a then [] else name (width_word w) ∷ space_sign ∷ [])

-- a memory operand: its size word, and its address in brackets
abbrev pub memory_pieces : Action → Width → Address → List Piece
memory_pieces a w m = size_pieces a w ++ left_bracket ∷ address_pieces m ++ right_bracket ∷ []

-- ---- operands

-- an operand of an action; `next` is the offset of the next instruction. A target is written as the offset that it
-- leads to
abbrev pub operand_pieces : Action → ℕ → Operand → List Piece
operand_pieces a next operand.Nothing = []
operand_pieces a next (operand.ByteRegister r) = name (byte_name r) ∷ []
operand_pieces a next (operand.WordRegister r) = name (word_name r) ∷ []
operand_pieces a next (operand.SegmentRegister r) = name (segment_name r) ∷ []
operand_pieces a next (operand.Memory w m) = memory_pieces a w m
operand_pieces a next (operand.ByteValue n) = byte n ∷ []
operand_pieces a next (operand.WordValue n) = word n ∷ []
operand_pieces a next operand.One = name (codes "1") ∷ []
operand_pieces a next (operand.Target d) = word ((next + d) % 65536) ∷ []
operand_pieces a next (operand.FarTarget o s) = word s ∷ colon ∷ word o ∷ []

-- the pieces of an operand after a sign; nothing without an operand
abbrev pub behind : Piece → Operand → List Piece → List Piece
behind s operand.Nothing ps = []
behind s _ ps = s ∷ ps

-- the second operand after a comma, if there is one
abbrev pub second_pieces : Action → ℕ → List Piece
second_pieces a next = behind comma a.second (operand_pieces a next a.second)

-- both operands of an action: the first after a space, the second after a comma; nothing without a first operand
abbrev pub operands_pieces : Action → ℕ → List Piece
operands_pieces a next = behind space_sign a.first (operand_pieces a next a.first ++ second_pieces a next)

-- ---- actions

-- the one or two words of a mnemonic
abbrev pub mnemonic_pieces : Mnemonic → List Piece
mnemonic_pieces op.CallFar = name (name_of op.Call) ∷ space_sign ∷ name (codes "FAR") ∷ []
mnemonic_pieces op.JmpFar = name (name_of op.Jmp) ∷ space_sign ∷ name (codes "FAR") ∷ []
mnemonic_pieces op.JmpShort = name (name_of op.Jmp) ∷ space_sign ∷ name (codes "SHORT") ∷ []
mnemonic_pieces m = name (name_of m) ∷ []

-- the operand is AX
abbrev pub is_accumulator : Operand → Bool
is_accumulator o = elim o [ operand.WordRegister r ↦ (elim r [ Ax ↦ true | _ ↦ false ]) | _ ↦ false ]

-- the action is XCHG AX,AX, which is written NOP
abbrev pub is_nop : Action → Bool
is_nop a = elim a.mnemonic [ op.Xchg ↦ (if is_accumulator a.first then is_accumulator a.second else false) | _ ↦ false ]

-- the mnemonic and the operands of an action; `next` is the offset of the next instruction
unfoldable pub action_pieces : Action → ℕ → List Piece
action_pieces a next = if is_nop a then name (codes "NOP") ∷ [] else mnemonic_pieces a.mnemonic
    ++ operands_pieces a next

-- ---- the prefixes that are kept: the segment's, LOCK, REP or REPNE, each with a space after it

-- the name of the register of a segment override prefix, if there is one
abbrev pub segment_pieces : Option SegmentRegister → List Piece
segment_pieces None = []
segment_pieces (Some r) = name (segment_name r) ∷ space_sign ∷ []

-- the word LOCK, if there is that prefix
abbrev pub lock_pieces : Bool → List Piece
lock_pieces l = if l then name (codes "LOCK") ∷ space_sign ∷ [] else []

-- the word of a repeat prefix, if there is one: F3h is written REP, F2h REPNE
abbrev pub repeat_pieces : Option Repeat → List Piece
repeat_pieces None = []
repeat_pieces (Some NotEqual) = name (codes "REPNE") ∷ space_sign ∷ []
repeat_pieces (Some Equal) = name (codes "REP") ∷ space_sign ∷ []

-- the words of the prefixes of an instruction, always in this order
abbrev pub prefix_pieces : Prefixes → List Piece
prefix_pieces p = segment_pieces p.segment ++ lock_pieces p.lock ++ repeat_pieces p.repeat

-- ---- the whole text

-- the text of an instruction in pieces; `next` is the offset of the next instruction
unfoldable pub pieces : Ins → ℕ → List Piece
pieces i next = prefix_pieces i.prefixes ++ action_pieces i.action next

-- the text of an instruction in ASCII; `next` is the offset of the next instruction
unfoldable pub text_of : Ins → ℕ → List ℕ
text_of i next = text_bytes (pieces i next)
