-- When words for values that are not known yet can stand for the real ones: the instruction has as many bytes. An
-- assembler needs this to count the bytes of a program before it knows the values of labels.
use Rattle.std.specs.Prelude.{◌≡◌, ◌%◌, ◌^◌, ◌<◌, Bool, true, false, IfSome, IsSomeAnd}
use Rattle.dm_ins.specs.declared.operand.Base.{Base}
use Rattle.dm_ins.specs.declared.operand.Base.TheVariants.{Direct}
use Rattle.dm_ins.specs.declared.operand.Address.{Address}
use Rattle.dm_ins.specs.declared.action.Mnemonic.{Mnemonic}
use Rattle.dm_ins.specs.declared.action.Mnemonic.TheVariants as op
use Rattle.dm_decode.specs.declared.words.written.Numeral.{Numeral}
use Rattle.dm_decode.specs.declared.words.written.Written.{Written}
use Rattle.dm_decode.specs.declared.words.written.Written.TheVariants as w
use Rattle.dm_decode.specs.declared.words.written.Words.{Words}

-- the mnemonic is MOV, whose length does not depend on an immediate value
abbrev pub is_move : Mnemonic → Bool
is_move op.Mov = true
is_move m = false

-- the address is direct: a displacement without registers
abbrev pub has_no_base : Base → Bool
has_no_base Direct = true
has_no_base b = false

-- the number `stand` can stand for n under the mnemonic m. As a byte, where n can be one, it is any under MOV, else n
-- modulo 64 (the number of ESC, which decides its first byte, is below 64); as a word, where n can be one, any under
-- MOV, else n; as a target the next instruction; and it can be the count 1 of a shift exactly where n can
pub record NumberStands (m : Mnemonic) (stand n : Numeral) : Type 0 where
  pub byte : IfSome n.byte (λ b. IsSomeAnd stand.byte (λ c. (c < 2 ^ 8) × (is_move m ≡ false → c ≡ b % 64)))
  pub word : IfSome n.word (λ v. IsSomeAnd stand.word (λ u. (u < 2 ^ 16) × (is_move m ≡ false → u ≡ v)))
  pub distance : stand.distance ≡ 0
  pub is_one : stand.is_one ≡ n.is_one

-- the address `stand` can stand for a: with the same registers, and the same displacement, which may be any word if the
-- address is direct
pub record AddressStands (stand a : Address) : Type 0 where
  pub base : stand.base ≡ a.base
  pub displacement : has_no_base a.base ≡ false → stand.displacement ≡ a.displacement
  pub fits : stand.displacement < 2 ^ 16

-- the first written operand can stand for the second under this mnemonic; what is neither number nor memory stands
-- for itself alone
abbrev pub OperandStands : Mnemonic → Written → Written → Type 0
OperandStands m (w.Number k) (w.Number n) = NumberStands m k n
OperandStands m (w.Memory s a) (w.Memory t b) = (s ≡ t) × AddressStands a b
OperandStands m x y = x ≡ y

-- the words `stand` can stand for `words`: the mnemonics are the same, and each operand of `stand` can stand for that
-- of `words` in its place
pub record StandsFor (stand words : Words) : Type 0 where
  pub mnemonic : stand.mnemonic ≡ words.mnemonic
  pub first : OperandStands words.mnemonic stand.first words.first
  pub second : OperandStands words.mnemonic stand.second words.second
