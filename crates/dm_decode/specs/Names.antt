-- The names of registers and mnemonics in the text of an instruction, and the look-up of a name.
-- Source: Intel 8086 Family User's Manual, section 2.2 (registers) and section 2.7 (mnemonics).
use Rattle.std.specs.Prelude.{ℕ, List, [], ◌∷◌, Option, Some, None, codes, if◌then◌else◌}
use Rattle.std.specs.Str.{bytes_eq}
use Rattle.dm_ins.specs.declared.operand.WordRegister.{WordRegister}
use Rattle.dm_ins.specs.declared.operand.WordRegister.TheVariants.{Ax, Cx, Dx, Bx, Sp, Bp, Si, Di}
use Rattle.dm_ins.specs.declared.operand.ByteRegister.{ByteRegister}
use Rattle.dm_ins.specs.declared.operand.ByteRegister.TheVariants.{Al, Cl, Dl, Bl, Ah, Ch, Dh, Bh}
use Rattle.dm_ins.specs.declared.operand.SegmentRegister.{SegmentRegister}
use Rattle.dm_ins.specs.declared.operand.SegmentRegister.TheVariants.{Es, Cs, Ss, Ds}
use Rattle.dm_ins.specs.declared.action.Mnemonic.{Mnemonic}
use Rattle.dm_ins.specs.declared.action.Mnemonic.TheVariants as op

-- ---- the names of registers

-- the name of a byte register, in ASCII
abbrev pub byte_name : ByteRegister → List ℕ
byte_name Al = codes "AL"
byte_name Cl = codes "CL"
byte_name Dl = codes "DL"
byte_name Bl = codes "BL"
byte_name Ah = codes "AH"
byte_name Ch = codes "CH"
byte_name Dh = codes "DH"
byte_name Bh = codes "BH"

-- the name of a word register, in ASCII
abbrev pub word_name : WordRegister → List ℕ
word_name Ax = codes "AX"
word_name Cx = codes "CX"
word_name Dx = codes "DX"
word_name Bx = codes "BX"
word_name Sp = codes "SP"
word_name Bp = codes "BP"
word_name Si = codes "SI"
word_name Di = codes "DI"

-- the name of a segment register, in ASCII
abbrev pub segment_name : SegmentRegister → List ℕ
segment_name Es = codes "ES"
segment_name Cs = codes "CS"
segment_name Ss = codes "SS"
segment_name Ds = codes "DS"

-- ---- the names of mnemonics; a far call, a far jump and a short jump have two words

-- the name of a mnemonic, in ASCII
unfoldable pub name_of : Mnemonic → List ℕ
name_of op.Add = codes "ADD"
name_of op.Or = codes "OR"
name_of op.Adc = codes "ADC"
name_of op.Sbb = codes "SBB"
name_of op.And = codes "AND"
name_of op.Sub = codes "SUB"
name_of op.Xor = codes "XOR"
name_of op.Cmp = codes "CMP"
name_of op.Rol = codes "ROL"
name_of op.Ror = codes "ROR"
name_of op.Rcl = codes "RCL"
name_of op.Rcr = codes "RCR"
name_of op.Shl = codes "SHL"
name_of op.Shr = codes "SHR"
name_of op.Sar = codes "SAR"
name_of op.Jo = codes "JO"
name_of op.Jno = codes "JNO"
name_of op.Jb = codes "JB"
name_of op.Jae = codes "JAE"
name_of op.Jz = codes "JZ"
name_of op.Jnz = codes "JNZ"
name_of op.Jbe = codes "JBE"
name_of op.Ja = codes "JA"
name_of op.Js = codes "JS"
name_of op.Jns = codes "JNS"
name_of op.Jp = codes "JP"
name_of op.Jnp = codes "JNP"
name_of op.Jl = codes "JL"
name_of op.Jge = codes "JGE"
name_of op.Jle = codes "JLE"
name_of op.Jg = codes "JG"
name_of op.Movsb = codes "MOVSB"
name_of op.Movsw = codes "MOVSW"
name_of op.Cmpsb = codes "CMPSB"
name_of op.Cmpsw = codes "CMPSW"
name_of op.Stosb = codes "STOSB"
name_of op.Stosw = codes "STOSW"
name_of op.Lodsb = codes "LODSB"
name_of op.Lodsw = codes "LODSW"
name_of op.Scasb = codes "SCASB"
name_of op.Scasw = codes "SCASW"
name_of op.Aaa = codes "AAA"
name_of op.Aad = codes "AAD"
name_of op.Aam = codes "AAM"
name_of op.Aas = codes "AAS"
name_of op.Call = codes "CALL"
name_of op.CallFar = codes "CALL FAR"
name_of op.Cbw = codes "CBW"
name_of op.Clc = codes "CLC"
name_of op.Cld = codes "CLD"
name_of op.Cli = codes "CLI"
name_of op.Cmc = codes "CMC"
name_of op.Cwd = codes "CWD"
name_of op.Daa = codes "DAA"
name_of op.Das = codes "DAS"
name_of op.Dec = codes "DEC"
name_of op.Div = codes "DIV"
name_of op.Esc = codes "ESC"
name_of op.Hlt = codes "HLT"
name_of op.Idiv = codes "IDIV"
name_of op.Imul = codes "IMUL"
name_of op.Input = codes "IN"
name_of op.Inc = codes "INC"
name_of op.Int = codes "INT"
name_of op.Int3 = codes "INT3"
name_of op.Into = codes "INTO"
name_of op.Iret = codes "IRET"
name_of op.Jcxz = codes "JCXZ"
name_of op.Jmp = codes "JMP"
name_of op.JmpFar = codes "JMP FAR"
name_of op.JmpShort = codes "JMP SHORT"
name_of op.Lahf = codes "LAHF"
name_of op.Lds = codes "LDS"
name_of op.Lea = codes "LEA"
name_of op.Les = codes "LES"
name_of op.Loop = codes "LOOP"
name_of op.Loope = codes "LOOPE"
name_of op.Loopne = codes "LOOPNE"
name_of op.Mov = codes "MOV"
name_of op.Mul = codes "MUL"
name_of op.Neg = codes "NEG"
name_of op.Not = codes "NOT"
name_of op.Output = codes "OUT"
name_of op.Pop = codes "POP"
name_of op.Popf = codes "POPF"
name_of op.Push = codes "PUSH"
name_of op.Pushf = codes "PUSHF"
name_of op.Ret = codes "RET"
name_of op.Retf = codes "RETF"
name_of op.Sahf = codes "SAHF"
name_of op.Stc = codes "STC"
name_of op.Std = codes "STD"
name_of op.Sti = codes "STI"
name_of op.Test = codes "TEST"
name_of op.Wait = codes "WAIT"
name_of op.Xchg = codes "XCHG"
name_of op.Xlat = codes "XLAT"

-- ---- from a name to what it names

-- every mnemonic
abbrev pub mnemonics : List Mnemonic
mnemonics = op.Add ∷ op.Or ∷ op.Adc ∷ op.Sbb ∷ op.And ∷ op.Sub ∷ op.Xor ∷ op.Cmp ∷ op.Rol ∷ op.Ror ∷ op.Rcl ∷ op.Rcr
    ∷ op.Shl ∷ op.Shr ∷ op.Sar ∷ op.Jo ∷ op.Jno ∷ op.Jb ∷ op.Jae ∷ op.Jz ∷ op.Jnz ∷ op.Jbe ∷ op.Ja ∷ op.Js ∷ op.Jns
    ∷ op.Jp ∷ op.Jnp ∷ op.Jl ∷ op.Jge ∷ op.Jle ∷ op.Jg ∷ op.Movsb ∷ op.Movsw ∷ op.Cmpsb ∷ op.Cmpsw ∷ op.Stosb
    ∷ op.Stosw ∷ op.Lodsb ∷ op.Lodsw ∷ op.Scasb ∷ op.Scasw ∷ op.Aaa ∷ op.Aad ∷ op.Aam ∷ op.Aas ∷ op.Call ∷ op.CallFar
    ∷ op.Cbw ∷ op.Clc ∷ op.Cld ∷ op.Cli ∷ op.Cmc ∷ op.Cwd ∷ op.Daa ∷ op.Das ∷ op.Dec ∷ op.Div ∷ op.Esc ∷ op.Hlt
    ∷ op.Idiv ∷ op.Imul ∷ op.Input ∷ op.Inc ∷ op.Int ∷ op.Int3 ∷ op.Into ∷ op.Iret ∷ op.Jcxz ∷ op.Jmp ∷ op.JmpFar
    ∷ op.JmpShort ∷ op.Lahf ∷ op.Lds ∷ op.Lea ∷ op.Les ∷ op.Loop ∷ op.Loope ∷ op.Loopne ∷ op.Mov ∷ op.Mul ∷ op.Neg
    ∷ op.Not ∷ op.Output ∷ op.Pop ∷ op.Popf ∷ op.Push ∷ op.Pushf ∷ op.Ret ∷ op.Retf ∷ op.Sahf ∷ op.Stc ∷ op.Std
    ∷ op.Sti ∷ op.Test ∷ op.Wait ∷ op.Xchg ∷ op.Xlat ∷ []

-- every segment register
abbrev pub segment_registers : List SegmentRegister
segment_registers = Es ∷ Cs ∷ Ss ∷ Ds ∷ []

-- the first element of the list that has the name w by `name_in`; None if none has
abbrev pub named : {A : Type 0} → (A → List ℕ) → List A → List ℕ → Option A
named name_in [] w = None
named name_in (x ∷ xs) w = if bytes_eq (name_in x) w then Some x else named name_in xs w
