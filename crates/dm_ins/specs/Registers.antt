-- The numbers of the registers in an instruction's bytes.
-- Source: Intel 8086 Family User's Manual, section 4, tables 4-9 to 4-11 (REG, R/M and segment fields).
use Rattle.std.specs.Prelude.{ℕ, List, [], ◌∷◌}
use Rattle.dm_ins.specs.declared.operand.WordRegister.{WordRegister}
use Rattle.dm_ins.specs.declared.operand.WordRegister.TheVariants.{Ax, Cx, Dx, Bx, Sp, Bp, Si, Di}
use Rattle.dm_ins.specs.declared.operand.ByteRegister.{ByteRegister}
use Rattle.dm_ins.specs.declared.operand.ByteRegister.TheVariants.{Al, Cl, Dl, Bl, Ah, Ch, Dh, Bh}
use Rattle.dm_ins.specs.declared.operand.SegmentRegister.{SegmentRegister}
use Rattle.dm_ins.specs.declared.operand.SegmentRegister.TheVariants.{Es, Cs, Ss, Ds}
use Rattle.dm_ins.specs.declared.operand.Base.{Base}
use Rattle.dm_ins.specs.declared.operand.Base.TheVariants.{BxSi, BxDi, BpSi, BpDi, OnSi, OnDi, OnBp, OnBx}

-- the word registers that the reg field names, and the r/m field where mod is 3, in the order of their numbers
abbrev pub word_registers : List WordRegister
word_registers = Ax ∷ Cx ∷ Dx ∷ Bx ∷ Sp ∷ Bp ∷ Si ∷ Di ∷ []

-- the byte registers that the reg field names, and the r/m field where mod is 3, in the order of their numbers
abbrev pub byte_registers : List ByteRegister
byte_registers = Al ∷ Cl ∷ Dl ∷ Bl ∷ Ah ∷ Ch ∷ Dh ∷ Bh ∷ []

-- the registers that the r/m field adds up into the base of an address, in the order of its numbers 0 to 7
abbrev pub bases : List Base
bases = BxSi ∷ BxDi ∷ BpSi ∷ BpDi ∷ OnSi ∷ OnDi ∷ OnBp ∷ OnBx ∷ []

-- the number of a word register in the reg field, and in the r/m field where mod is 3
abbrev pub word_number : WordRegister → ℕ
word_number Ax = 0
word_number Cx = 1
word_number Dx = 2
word_number Bx = 3
word_number Sp = 4
word_number Bp = 5
word_number Si = 6
word_number Di = 7

-- the number of a byte register in the reg field, and in the r/m field where mod is 3
abbrev pub byte_register_number : ByteRegister → ℕ
byte_register_number Al = 0
byte_register_number Cl = 1
byte_register_number Dl = 2
byte_register_number Bl = 3
byte_register_number Ah = 4
byte_register_number Ch = 5
byte_register_number Dh = 6
byte_register_number Bh = 7

-- the number of a segment register in the segment field of two bits
abbrev pub segment_number : SegmentRegister → ℕ
segment_number Es = 0
segment_number Cs = 1
segment_number Ss = 2
segment_number Ds = 3
