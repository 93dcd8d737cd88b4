-- The instruction table of the 8086: for each first byte, and for each value of the reg field in a
-- group, the mnemonic and the kinds of its operands.
-- Source: Intel 8086 Family User's Manual, section 4, "Machine Instruction Encoding and Decoding",
-- tables 4-13 and 4-14. Bytes for which the manual has no instruction are not listed, but for OR, AND and XOR at 82 and
-- 83, which it calls not used and the processor has.
use Rattle.std.specs.Prelude.{ℕ, List, [], ◌∷◌, ◌++◌, map, Option, Some, None, slice_index_or}
use Rattle.dm_ins.specs.declared.operand.Width.TheVariants.{Byte, Word}
use Rattle.dm_ins.specs.declared.operand.WordRegister.{WordRegister}
use Rattle.dm_ins.specs.declared.operand.WordRegister.TheVariants.{Ax, Dx}
use Rattle.dm_ins.specs.declared.operand.ByteRegister.TheVariants.{Al, Cl}
use Rattle.dm_ins.specs.declared.operand.SegmentRegister.{SegmentRegister}
use Rattle.dm_ins.specs.declared.operand.SegmentRegister.TheVariants.{Es, Cs, Ss, Ds}
use Rattle.dm_ins.specs.declared.action.Mnemonic.{Mnemonic}
use Rattle.dm_ins.specs.declared.action.Mnemonic.TheVariants as op
use Rattle.dm_ins.specs.declared.table.OperandKind.{OperandKind}
use Rattle.dm_ins.specs.declared.table.OperandKind.TheVariants as is
use Rattle.dm_ins.specs.declared.table.Template.{Template}
use Rattle.dm_ins.specs.declared.table.OpcodeEntry.{OpcodeEntry}
use Rattle.dm_ins.specs.declared.table.OpcodeEntry.TheVariants.{Unlisted, Plain, Group, Second}
use Rattle.dm_ins.specs.Registers.{word_registers, byte_registers}

-- ---- signs of opcode maps: E is the operand of the mod and r/m fields, G the register of the
-- reg field, M memory, S a segment register, I an immediate, Is a byte that is extended by sign, D a
-- displacement, O a direct offset, Ap an offset and a segment; b is a byte, w a word

-- E, a byte: the byte register or memory operand of the mod and r/m fields
abbrev pub Eb : OperandKind
Eb = is.RegisterOrMemory Byte

-- E, a word: the word register or memory operand of the mod and r/m fields
abbrev pub Ew : OperandKind
Ew = is.RegisterOrMemory Word

-- G, a byte: the byte register of the reg field
abbrev pub Gb : OperandKind
Gb = is.Register Byte

-- G, a word: the word register of the reg field
abbrev pub Gw : OperandKind
Gw = is.Register Word

-- M: the memory operand of the mod and r/m fields, which cannot be a register
abbrev pub M : OperandKind
M = is.Memory

-- I, a byte: an immediate byte
abbrev pub Ib : OperandKind
Ib = is.ByteValue

-- I, a word: an immediate word, low byte first
abbrev pub Iw : OperandKind
Iw = is.WordValue

-- Is: an immediate byte that is extended by sign to a word
abbrev pub Is : OperandKind
Is = is.SignedValue

-- D, a byte: the displacement of a short jump, extended by sign
abbrev pub Db : OperandKind
Db = is.Short

-- D, a word: the displacement of a near jump or call
abbrev pub Dw : OperandKind
Dw = is.Near

-- O, a byte: the byte of memory at a direct offset
abbrev pub Ob : OperandKind
Ob = is.Direct Byte

-- O, a word: the word of memory at a direct offset
abbrev pub Ow : OperandKind
Ow = is.Direct Word

-- Ap: a far target, the word of its offset and then the word of its segment
abbrev pub Ap : OperandKind
Ap = is.Far

-- the count 1 of a shift or rotate, which takes no byte
abbrev pub One : OperandKind
One = is.One

-- the register AL, which takes no byte: the first byte names it
abbrev pub AL : OperandKind
AL = is.Byte Al

-- the register CL, the count of a shift or rotate
abbrev pub CL : OperandKind
CL = is.Byte Cl

-- the register AX, which takes no byte: the first byte names it
abbrev pub AX : OperandKind
AX = is.Word Ax

-- the register DX, the port of IN and OUT
abbrev pub DX : OperandKind
DX = is.Word Dx

-- S: this segment register, which the first byte or the reg field names
abbrev pub S : SegmentRegister → OperandKind
S r = is.TheSegment r

-- a template: its mnemonic, and the kinds of its two operands
abbrev pub template : Mnemonic → OperandKind → OperandKind → Template
template m a b = record { mnemonic = m; first = a; second = b }

-- an entry of one template with two operands
abbrev pub two_operands : Mnemonic → OperandKind → OperandKind → OpcodeEntry
two_operands m a b = Plain (template m a b)

-- an entry of one template with one operand
abbrev pub one_operand : Mnemonic → OperandKind → OpcodeEntry
one_operand m a = two_operands m a is.Nothing

-- an entry of one template with no operand
abbrev pub bare : Mnemonic → OpcodeEntry
bare m = one_operand m is.Nothing

-- ---- runs of templates that differ by a number

-- the arithmetic mnemonics, in the order of their numbers: reg fields 0 to 7
abbrev pub arithmetics : List Mnemonic
arithmetics = op.Add ∷ op.Or ∷ op.Adc ∷ op.Sbb ∷ op.And ∷ op.Sub ∷ op.Xor ∷ op.Cmp ∷ []

-- the mnemonics of the conditional jumps, in the order of their first bytes 70h to 7Fh; 16 templates
abbrev pub conditions : List Mnemonic
conditions = op.Jo ∷ op.Jno ∷ op.Jb ∷ op.Jae ∷ op.Jz ∷ op.Jnz ∷ op.Jbe ∷ op.Ja ∷ op.Js ∷ op.Jns ∷ op.Jp ∷ op.Jnp ∷ op.Jl
    ∷ op.Jge ∷ op.Jle ∷ op.Jg ∷ []

-- the entries of an arithmetic mnemonic with six first bytes, one after the other: E and G, G and E, accumulator and
-- immediate
abbrev pub six : Mnemonic → List OpcodeEntry
six m = two_operands m Eb Gb ∷ two_operands m Ew Gw ∷ two_operands m Gb Eb ∷ two_operands m Gw Ew ∷ two_operands m AL Ib
    ∷ two_operands m AX Iw ∷ []

-- an entry for each word register, in the order of their numbers
abbrev pub each_word : (WordRegister → OpcodeEntry) → List OpcodeEntry
each_word f = map f word_registers

-- a group of arithmetic with an immediate, 80h to 83h: a template for each reg field, with operands of the kinds a and
-- b; 4 groups, 32 templates
abbrev pub immediate : OperandKind → OperandKind → List (Option Template)
immediate a b = (map (λ m. Some (template m a b)) arithmetics)

-- a group of shifts and rotates by 1 or by CL, D0h to D3h, with operands of the kinds a and b; 4 groups, 28 templates
-- (/6 is not listed)
abbrev pub shifts : OperandKind → OperandKind → List (Option Template)
shifts a b = (map (λ m. Some (template m a b)) (op.Rol ∷ op.Ror ∷ op.Rcl ∷ op.Rcr ∷ op.Shl ∷ op.Shr ∷ []) ++ None
    ∷ Some (template op.Sar a b) ∷ [])

-- a group of TEST, NOT, NEG, MUL, IMUL, DIV and IDIV, F6h and F7h, with an operand of the kind e, and an immediate i
-- for TEST; 2 groups, 14 templates (/1 is not listed)
abbrev pub unary : OperandKind → OperandKind → List (Option Template)
unary e i = (Some (template op.Test e i) ∷ None ∷ map (λ m. Some (template m e is.Nothing)) (op.Not ∷ op.Neg ∷ op.Mul
    ∷ op.Imul ∷ op.Div ∷ op.Idiv ∷ []))

-- a group with a template for the reg field 0 alone: POP 8Fh, MOV C6h and C7h
abbrev pub zeroth : Template → List (Option Template)
zeroth r = (Some r ∷ None ∷ None ∷ None ∷ None ∷ None ∷ None ∷ None ∷ [])

-- the two entries of a string instruction, by bytes and by words
abbrev pub pair : Mnemonic → Mnemonic → List OpcodeEntry
pair m n = bare m ∷ bare n ∷ []

-- ---- the table, 16 first bytes after each comment

-- the 256 entries, by first byte; those of prefixes, and of bytes that begin no instruction, are `Unlisted`
abbrev pub entries : List OpcodeEntry
entries =
    -- 00
    six op.Add ++ one_operand op.Push (S Es) ∷ one_operand op.Pop (S Es) ∷ []
    ++ six op.Or ++ one_operand op.Push (S Cs) ∷ Unlisted ∷ []
    -- 10
    ++ six op.Adc ++ one_operand op.Push (S Ss) ∷ one_operand op.Pop (S Ss) ∷ []
    ++ six op.Sbb ++ one_operand op.Push (S Ds) ∷ one_operand op.Pop (S Ds) ∷ []
    -- 20
    ++ six op.And ++ Unlisted ∷ bare op.Daa ∷ []
    ++ six op.Sub ++ Unlisted ∷ bare op.Das ∷ []
    -- 30
    ++ six op.Xor ++ Unlisted ∷ bare op.Aaa ∷ []
    ++ six op.Cmp ++ Unlisted ∷ bare op.Aas ∷ []
    -- 40
    ++ each_word (λ r. one_operand op.Inc (is.Word r)) ++ each_word (λ r. one_operand op.Dec (is.Word r))
    -- 50
    ++ each_word (λ r. one_operand op.Push (is.Word r)) ++ each_word (λ r. one_operand op.Pop (is.Word r))
    -- 60
    ++ Unlisted ∷ Unlisted ∷ Unlisted ∷ Unlisted ∷ Unlisted ∷ Unlisted ∷ Unlisted ∷ Unlisted ∷ []
    ++ Unlisted ∷ Unlisted ∷ Unlisted ∷ Unlisted ∷ Unlisted ∷ Unlisted ∷ Unlisted ∷ Unlisted ∷ []
    -- 70
    ++ map (λ c. one_operand c Db) conditions
    -- 80
    ++ Group 0 ∷ Group 1 ∷ Group 2 ∷ Group 3 ∷ []
    ++ two_operands op.Test Eb Gb ∷ two_operands op.Test Ew Gw ∷ two_operands op.Xchg Eb Gb ∷ two_operands op.Xchg Ew Gw
    ∷ []
    ++ two_operands op.Mov Eb Gb ∷ two_operands op.Mov Ew Gw ∷ two_operands op.Mov Gb Eb ∷ two_operands op.Mov Gw Ew
    ∷ []
    ++ Group 4 ∷ []
    ++ two_operands op.Lea Gw M ∷ []
    ++ Group 5 ∷ []
    ++ Group 6 ∷ []
    -- 90
    ++ each_word (λ r. two_operands op.Xchg AX (is.Word r))
    ++ bare op.Cbw ∷ bare op.Cwd ∷ one_operand op.CallFar Ap ∷ bare op.Wait ∷ bare op.Pushf ∷ bare op.Popf
    ∷ bare op.Sahf ∷ bare op.Lahf ∷ []
    -- A0
    ++ two_operands op.Mov AL Ob ∷ two_operands op.Mov AX Ow ∷ two_operands op.Mov Ob AL ∷ two_operands op.Mov Ow AX
    ∷ []
    ++ pair op.Movsb op.Movsw ++ pair op.Cmpsb op.Cmpsw
    ++ two_operands op.Test AL Ib ∷ two_operands op.Test AX Iw ∷ []
    ++ pair op.Stosb op.Stosw ++ pair op.Lodsb op.Lodsw ++ pair op.Scasb op.Scasw
    -- B0
    ++ map (λ r. two_operands op.Mov (is.Byte r) Ib) byte_registers
    ++ each_word (λ r. two_operands op.Mov (is.Word r) Iw)
    -- C0
    ++ Unlisted ∷ Unlisted ∷ one_operand op.Ret Iw ∷ bare op.Ret ∷ two_operands op.Les Gw M ∷ two_operands op.Lds Gw M
    ∷ []
    ++ Group 7 ∷ Group 8 ∷ []
    ++ Unlisted ∷ Unlisted ∷ one_operand op.Retf Iw ∷ bare op.Retf ∷ bare op.Int3 ∷ one_operand op.Int Ib ∷ bare op.Into
    ∷ bare op.Iret ∷ []
    -- D0
    ++ Group 9 ∷ Group 10 ∷ Group 11 ∷ Group 12 ∷ []
    ++ Second 0x0A (template op.Aam is.Nothing is.Nothing) ∷ Second 0x0A (template op.Aad is.Nothing is.Nothing)
    ∷ Unlisted ∷ bare op.Xlat ∷ []
    ++ map (λ n. two_operands op.Esc (is.Escape n) Ew) (0 ∷ 1 ∷ 2 ∷ 3 ∷ 4 ∷ 5 ∷ 6 ∷ 7 ∷ [])
    -- E0
    ++ one_operand op.Loopne Db ∷ one_operand op.Loope Db ∷ one_operand op.Loop Db ∷ one_operand op.Jcxz Db ∷ []
    ++ two_operands op.Input AL Ib ∷ two_operands op.Input AX Ib ∷ two_operands op.Output Ib AL
    ∷ two_operands op.Output Ib AX ∷ []
    ++ one_operand op.Call Dw ∷ one_operand op.Jmp Dw ∷ one_operand op.JmpFar Ap ∷ one_operand op.JmpShort Db ∷ []
    ++ two_operands op.Input AL DX ∷ two_operands op.Input AX DX ∷ two_operands op.Output DX AL
    ∷ two_operands op.Output DX AX ∷ []
    -- F0
    ++ Unlisted ∷ Unlisted ∷ Unlisted ∷ Unlisted ∷ bare op.Hlt ∷ bare op.Cmc ∷ Group 13 ∷ Group 14 ∷ []
    ++ bare op.Clc ∷ bare op.Stc ∷ bare op.Cli ∷ bare op.Sti ∷ bare op.Cld ∷ bare op.Std ∷ []
    ++ Group 15 ∷ []
    ++ Group 16 ∷ []

-- the entry of a first byte; `Unlisted` if it is a prefix or begins no instruction
unfoldable pub entry_of : ℕ → OpcodeEntry
entry_of b = slice_index_or entries b Unlisted

-- the groups in the order of their first bytes: 80 81 82 83, 8C, 8E, 8F C6 C7, D0 D1 D2 D3, F6 F7, FE,
-- FF; in each, for the reg fields 0 to 7, a template or None
abbrev pub groups : List (List (Option Template))
groups =
    immediate Eb Ib ∷ immediate Ew Iw ∷ immediate Eb Ib ∷ immediate Ew Is
    ∷ (Some (template op.Mov Ew (S Es)) ∷ Some (template op.Mov Ew (S Cs)) ∷ Some (template op.Mov Ew (S Ss))
    ∷ Some (template op.Mov Ew (S Ds)) ∷ None ∷ None ∷ None ∷ None ∷ [])
    ∷ (Some (template op.Mov (S Es) Ew) ∷ None ∷ Some (template op.Mov (S Ss) Ew) ∷ Some (template op.Mov (S Ds) Ew)
    ∷ None ∷ None ∷ None ∷ None ∷ [])
    ∷ zeroth (template op.Pop Ew is.Nothing) ∷ zeroth (template op.Mov Eb Ib) ∷ zeroth (template op.Mov Ew Iw)
    ∷ shifts Eb One ∷ shifts Ew One ∷ shifts Eb CL ∷ shifts Ew CL
    ∷ unary Eb Ib ∷ unary Ew Iw
    ∷ (Some (template op.Inc Eb is.Nothing) ∷ Some (template op.Dec Eb is.Nothing) ∷ None ∷ None ∷ None ∷ None ∷ None
    ∷ None ∷ [])
    ∷ (Some (template op.Inc Ew is.Nothing) ∷ Some (template op.Dec Ew is.Nothing)
    ∷ Some (template op.Call Ew is.Nothing) ∷ Some (template op.CallFar M is.Nothing)
    ∷ Some (template op.Jmp Ew is.Nothing) ∷ Some (template op.JmpFar M is.Nothing)
    ∷ Some (template op.Push Ew is.Nothing) ∷ None ∷ [])
    ∷ []

-- the template of the group g that the reg field r chooses, None if it has none there
unfoldable pub member_of : ℕ → ℕ → Option Template
member_of g r = slice_index_or (slice_index_or groups g []) r None

-- if the entry is a group, P holds of the group's number
abbrev pub IfGroup : OpcodeEntry → (ℕ → Type 0) → Type 0
IfGroup (Group g) P = P g
IfGroup _ P = Unit {0}
