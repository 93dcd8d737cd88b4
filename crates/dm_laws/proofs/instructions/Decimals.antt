-- Instructions as operations on the accumulator.
use Rattle.std.proofs.Common.{◌≡◌, ℕ, ◌+◌, ◌*◌, ◌%◌, ◌<◌, Bool, true, false, if◌then◌else◌, Option, Some, None, refl, sym, ◌∙◌, ap, ap₂, subst, arith}
use Rattle.std.specs.Int.{from_bool}
use Rattle.dm_space.specs.Memory.{linear, peek, peek16}
use Rattle.dm_alu.specs.declared.adjustments.Adjustment.{Adjustment}
use Rattle.dm_alu.specs.declared.adjustments.Adjustment.TheVariants as adjustment
use Rattle.dm_alu.specs.declared.flags.Flags.{Flags}
use Rattle.dm_alu.specs.declared.products.Sign.TheVariants.{Unsigned}
use Rattle.dm_alu.specs.declared.width.Width.{Width}
use Rattle.dm_alu.specs.declared.width.Width.TheVariants.{Byte}
use Rattle.dm_alu.specs.Adjustments.{ah_of, al_of, word_of_halves}
use Rattle.dm_alu.specs.Products.{flags_after_product, product_value}
use Rattle.dm_alu.specs.Sums.{difference_value, flags_after_difference, flags_after_sum, sum_value}
use Rattle.dm_laws.specs.arithmetic.Decimal.{Accumulator, HasDigits, HasPackedDifference, HasPackedSum, HasUnpackedDifference, HasUnpackedSum, by_addition, by_adjustment as adjusted_in, by_multiplication as multiplied_in, packed, subtracted, unpacked}
use Rattle.dm_laws.proofs.arithmetic.Packed.{packed_add, packed_subtract}
use Rattle.dm_laws.proofs.arithmetic.Unpacked.{unpacked_add, unpacked_multiply, unpacked_subtract}
use Rattle.dm_ins.specs.declared.ins.Ins.{Ins}
use Rattle.dm_ins.specs.declared.action.Mnemonic.TheVariants as op
use Rattle.dm_ins.specs.declared.operand.Address.{Address}
use Rattle.dm_ins.specs.declared.operand.Base.{Base}
use Rattle.dm_ins.specs.declared.operand.Base.TheVariants.{Direct, BxSi, BxDi, BpSi, BpDi, OnSi, OnDi, OnBp, OnBx}
use Rattle.dm_ins.specs.declared.operand.ByteRegister.{ByteRegister}
use Rattle.dm_ins.specs.declared.operand.ByteRegister.TheVariants.{Al, Cl, Dl, Bl, Ah, Ch, Dh, Bh}
use Rattle.dm_ins.specs.declared.operand.Operand.{Operand}
use Rattle.dm_ins.specs.declared.operand.Operand.TheVariants as operand
use Rattle.dm_ins.specs.declared.operand.SegmentRegister.{SegmentRegister}
use Rattle.dm_ins.specs.declared.operand.SegmentRegister.TheVariants.{Es, Cs, Ss, Ds}
use Rattle.dm_ins.specs.declared.operand.Width.TheVariants as memory
use Rattle.dm_ins.specs.declared.operand.WordRegister.{WordRegister}
use Rattle.dm_ins.specs.declared.operand.WordRegister.TheVariants.{Ax, Cx, Dx, Bx, Sp, Bp, Si, Di}
use Rattle.dm_cpu.specs.Cpu.{byte_of, segment_of, with_byte, word_of}
use Rattle.dm_cpu.specs.EffectiveAddress.{own_segment}
use Rattle.dm_cpu.specs.Guest.{Guest, at_ip, on_cpu, up, with_flags}
use Rattle.dm_cpu.specs.Operands.{base_of, segment_for, value_of, with_operand, with_result}
use Rattle.dm_cpu.specs.Values.{accumulator, value_in, width_of}
use Rattle.dm_operations.specs.declared.arithmetic.ArithmeticOperation.TheVariants.{Add, AddWithCarry, Subtract, SubtractWithBorrow}
use Rattle.dm_operations.specs.Adjustments.{adjusted}
use Rattle.dm_operations.specs.Arithmetic.{arithmetic, difference_in, difference_into, sum_in, sum_into}
use Rattle.dm_operations.specs.Products.{multiplied, with_double}
use Rattle.dm_exec.specs.declared.operation.Operation.{Operation}
use Rattle.dm_exec.specs.declared.operation.Operation.TheVariants as is
use Rattle.dm_exec.specs.Effect.{operation_effect, effect}
use Rattle.dm_exec.specs.Operation.{operation_of}
use Rattle.dm_laws.specs.instructions.Decimals.{InstructionsComputeInDecimal, IsOfByte, IsOnAl, accumulator_of, after_both, carry_in, difference_mnemonic, first_byte, second_byte, sum_mnemonic}

-- no operand's value depends on IP
segment-same : (g : Guest) (ip : ℕ) (r : SegmentRegister) → segment_of (at_ip g ip).cpu r ≡ segment_of g.cpu r
unfolding segment_of
segment-same g ip Es = refl
segment-same g ip Cs = refl
segment-same g ip Ss = refl
segment-same g ip Ds = refl

base-same : (g : Guest) (ip : ℕ) (b : Base) → base_of (at_ip g ip).cpu b ≡ base_of g.cpu b
unfolding base_of
base-same g ip Direct = refl
base-same g ip BxSi = refl
base-same g ip BxDi = refl
base-same g ip BpSi = refl
base-same g ip BpDi = refl
base-same g ip OnSi = refl
base-same g ip OnDi = refl
base-same g ip OnBp = refl
base-same g ip OnBx = refl

for-same : (g : Guest) (ip : ℕ) (override : Option SegmentRegister) (a : Address) →
    segment_for (at_ip g ip).cpu override a ≡ segment_for g.cpu override a
for-same g ip None a = segment-same g ip (own_segment a.base)
for-same g ip (Some r) a = segment-same g ip r

byte-same : (g : Guest) (ip : ℕ) (r : ByteRegister) → byte_of (at_ip g ip).cpu r ≡ byte_of g.cpu r
unfolding byte_of
byte-same g ip Al = refl
byte-same g ip Cl = refl
byte-same g ip Dl = refl
byte-same g ip Bl = refl
byte-same g ip Ah = refl
byte-same g ip Ch = refl
byte-same g ip Dh = refl
byte-same g ip Bh = refl

word-same : (g : Guest) (ip : ℕ) (r : WordRegister) → word_of (at_ip g ip).cpu r ≡ word_of g.cpu r
unfolding word_of
word-same g ip Ax = refl
word-same g ip Cx = refl
word-same g ip Dx = refl
word-same g ip Bx = refl
word-same g ip Sp = refl
word-same g ip Bp = refl
word-same g ip Si = refl
word-same g ip Di = refl

value-same : (g : Guest) (ip : ℕ) (override : Option SegmentRegister) (o : Operand) →
    value_of (at_ip g ip) override o ≡ value_of g override o
unfolding value_of
value-same g ip override operand.Nothing = refl
value-same g ip override (operand.ByteRegister r) = byte-same g ip r
value-same g ip override (operand.WordRegister r) = word-same g ip r
value-same g ip override (operand.SegmentRegister r) = segment-same g ip r
value-same g ip override (operand.Memory memory.Byte a) =
    ap₂ (λ s b. peek g.memory (linear g.memory.a20 s (up b a.displacement))) (for-same g ip override a)
    (base-same g ip a.base)
value-same g ip override (operand.Memory memory.Word a) =
    ap₂ (λ s b. peek16 g.memory s (up b a.displacement)) (for-same g ip override a) (base-same g ip a.base)
value-same g ip override (operand.ByteValue n) = refl
value-same g ip override (operand.WordValue n) = refl
value-same g ip override operand.One = refl
value-same g ip override (operand.Target n) = refl
value-same g ip override (operand.FarTarget n s) = refl

byte-in-same : (g : Guest) (ip : ℕ) (override : Option SegmentRegister) (o : Operand) →
    value_in Byte (at_ip g ip) override o ≡ value_in Byte g override o
unfolding value_in
byte-in-same g ip override o = ap (λ z. z % 256) (value-same g ip override o)

-- AL takes a byte
al-value : (g : Guest) (override : Option SegmentRegister) → value_in Byte g override (operand.ByteRegister Al)
    ≡ al_of g.cpu.ax
unfolding value_in value_of byte_of
al-value g override = omega arith

al-result : (g : Guest) (override : Option SegmentRegister) (v : ℕ) (f : Flags) → g.cpu.ax < 65536 →
    accumulator_of (with_result g override (operand.ByteRegister Al) v f)
    ≡ record { ax = word_of_halves (ah_of g.cpu.ax) v; flags = f }
unfolding with_operand with_byte
al-result g override v f h = ap (λ (z : ℕ). record { ax = z; flags = f }) (omega arith)

summed : (g : Guest) (ip : ℕ) (override : Option SegmentRegister) (o : Operand) (c : Bool) → g.cpu.ax < 65536 →
    accumulator_of (sum_in Byte (at_ip g ip) c override (operand.ByteRegister Al) override o)
    ≡ by_addition (accumulator_of g) (value_in Byte g override o) c
summed g ip override o c h =
    al-result (at_ip g ip) override _ _ h
    ∙ ap₂ (λ a b. record {
      ax = word_of_halves (ah_of g.cpu.ax) (sum_value Byte a b c);
      flags = flags_after_sum Byte a b c g.cpu.flags;
    }) (al-value (at_ip g ip) override)
    (byte-in-same g ip override o)

taken : (g : Guest) (ip : ℕ) (override : Option SegmentRegister) (o : Operand) (c : Bool) → g.cpu.ax < 65536 →
    accumulator_of (difference_in Byte (at_ip g ip) c override (operand.ByteRegister Al) override o)
    ≡ subtracted (accumulator_of g) (value_in Byte g override o) c
taken g ip override o c h =
    al-result (at_ip g ip) override _ _ h
    ∙ ap₂ (λ a b. record {
      ax = word_of_halves (ah_of g.cpu.ax) (difference_value Byte a b c);
      flags = flags_after_difference Byte a b c g.cpu.flags;
    }) (al-value (at_ip g ip) override)
    (byte-in-same g ip override o)

-- each instruction on the accumulator
effect-as : (g : Guest) (i : Ins) (k : ℕ) (x : Operation) → operation_of i.action.mnemonic ≡ x →
    effect g i k ≡ operation_effect (at_ip g (up g.cpu.ip k)) i.prefixes g.cpu.ip x i.action.first i.action.second
unfolding effect
effect-as g i k x e = ap (λ (z : Operation). operation_effect (at_ip g (up g.cpu.ip k)) i.prefixes g.cpu.ip z
    i.action.first i.action.second) e

sum-operation : (c : Bool) → operation_of (sum_mnemonic c) ≡ is.Arithmetic (if c then AddWithCarry else Add)
unfolding operation_of
sum-operation true = refl
sum-operation false = refl

difference-operation : (c : Bool) → operation_of (difference_mnemonic c) ≡ is.Arithmetic (if c then SubtractWithBorrow
    else Subtract)
unfolding operation_of
difference-operation true = refl
difference-operation false = refl

sum-effect : (g : Guest) (ip : ℕ) (override : Option SegmentRegister) (first o : Operand) (c : Bool) →
    first ≡ operand.ByteRegister Al → g.cpu.ax < 65536 → accumulator_of (arithmetic (at_ip g ip) override (if c then
    AddWithCarry else Add) first o) ≡ by_addition (accumulator_of g) (value_in Byte g override o) (carry_in c g)
unfolding arithmetic sum_into width_of
sum-effect g ip override first o true e h =
    ap (λ f. accumulator_of (sum_in (width_of f) (at_ip g ip) g.cpu.flags.carry override f override o)) e
    ∙ summed g ip override o g.cpu.flags.carry h
sum-effect g ip override first o false e h =
    ap (λ f. accumulator_of (sum_in (width_of f) (at_ip g ip) false override f override o)) e
    ∙ summed g ip override o false h

difference-effect : (g : Guest) (ip : ℕ) (override : Option SegmentRegister) (first o : Operand) (c : Bool) →
    first ≡ operand.ByteRegister Al → g.cpu.ax < 65536 → accumulator_of (arithmetic (at_ip g ip) override (if c then
    SubtractWithBorrow else Subtract) first o) ≡ subtracted (accumulator_of g) (value_in Byte g override o)
    (carry_in c g)
unfolding arithmetic difference_into width_of
difference-effect g ip override first o true e h =
    ap (λ f. accumulator_of (difference_in (width_of f) (at_ip g ip) g.cpu.flags.carry override f override o)) e
    ∙ taken g ip override o g.cpu.flags.carry h
difference-effect g ip override first o false e h =
    ap (λ f. accumulator_of (difference_in (width_of f) (at_ip g ip) false override f override o)) e
    ∙ taken g ip override o false h

sum-is : (g : Guest) (i : Ins) (k : ℕ) (c : Bool) → IsOnAl i (sum_mnemonic c) → g.cpu.ax < 65536 →
    accumulator_of (effect g i k) ≡ by_addition (accumulator_of g) (second_byte g i) (carry_in c g)
sum-is g i k c s h =
    ap accumulator_of (effect-as g i k _ (ap operation_of s.mnemonic_is ∙ sum-operation c))
    ∙ sum-effect g (up g.cpu.ip k) i.prefixes.segment i.action.first i.action.second c s.first_is h

difference-is : (g : Guest) (i : Ins) (k : ℕ) (c : Bool) → IsOnAl i (difference_mnemonic c) → g.cpu.ax < 65536 →
    accumulator_of (effect g i k) ≡ subtracted (accumulator_of g) (second_byte g i) (carry_in c g)
difference-is g i k c s h =
    ap accumulator_of (effect-as g i k _ (ap operation_of s.mnemonic_is ∙ difference-operation c))
    ∙ difference-effect g (up g.cpu.ip k) i.prefixes.segment i.action.first i.action.second c s.first_is h

adjust-is : (g : Guest) (j : Ins) (n : ℕ) (a : Adjustment) → operation_of j.action.mnemonic ≡ is.Adjust a →
    accumulator_of (effect g j n) ≡ adjusted_in a (accumulator_of g)
unfolding adjusted
adjust-is g j n a e = ap accumulator_of (effect-as g j n (is.Adjust a) e)

product-at : (g : Guest) (ip : ℕ) (override : Option SegmentRegister) (o : Operand) (w : Width) → w ≡ Byte →
    accumulator_of (with_flags (on_cpu (at_ip g ip) (with_double w (at_ip g ip).cpu
    (product_value Unsigned w (accumulator w (at_ip g ip).cpu) (value_in w (at_ip g ip) override o))))
    (flags_after_product Unsigned w (accumulator w (at_ip g ip).cpu) (value_in w (at_ip g ip) override o)
    g.cpu.flags))
    ≡ multiplied_in (accumulator_of g) (value_in Byte g override o)
unfolding with_double accumulator byte_of
product-at g ip override o w e =
    ap (λ v. accumulator_of (with_flags (on_cpu (at_ip g ip) (with_double v (at_ip g ip).cpu
    (product_value Unsigned v (accumulator v (at_ip g ip).cpu) (value_in v (at_ip g ip) override o))))
    (flags_after_product Unsigned v (accumulator v (at_ip g ip).cpu) (value_in v (at_ip g ip) override o)
    g.cpu.flags))) e
    ∙ ap (λ b. record {
      ax = product_value Unsigned Byte (al_of g.cpu.ax) b;
      flags = flags_after_product Unsigned Byte (al_of g.cpu.ax) b g.cpu.flags;
    }) (byte-in-same g ip override o)

product-is : (g : Guest) (i : Ins) (k : ℕ) → IsOfByte i op.Mul → accumulator_of (effect g i k)
    ≡ multiplied_in (accumulator_of g) (first_byte g i)
unfolding multiplied operation_of
product-is g i k s =
    ap accumulator_of (effect-as g i k (is.Multiply Unsigned) (ap operation_of s.mnemonic_is))
    ∙ product-at g (up g.cpu.ip k) i.prefixes.segment i.action.first (width_of i.action.first) s.width_is

-- two instructions
both : (g : Guest) (i j : Ins) (k n : ℕ) (a : Adjustment) (y : Accumulator) → operation_of j.action.mnemonic
    ≡ is.Adjust a → accumulator_of (effect g i k) ≡ y → after_both g i k j n ≡ adjusted_in a y
both g i j k n a y e f = adjust-is (effect g i k) j n a e ∙ ap (adjusted_in a) f

pub compute : InstructionsComputeInDecimal
unfolding operation_of
compute g i j k n h = record {
  daa = λ c s m a b. subst (λ y. HasPackedSum y (packed (al_of g.cpu.ax) + packed (second_byte g i)
      + from_bool (carry_in c g)) (ah_of g.cpu.ax)) (sym (both g i j k n adjustment.DecimalAddition _
      (ap operation_of m) (sum-is g i k c s h))) (packed_add (accumulator_of g) (second_byte g i) (carry_in c g) h a b);
  das = λ c s m a b. subst (λ y. HasPackedDifference y (packed (second_byte g i) + from_bool (carry_in c g))
      (packed (al_of g.cpu.ax)) (ah_of g.cpu.ax)) (sym (both g i j k n adjustment.DecimalSubtraction _
      (ap operation_of m) (difference-is g i k c s h))) (packed_subtract (accumulator_of g) (second_byte g i)
      (carry_in c g) h a b);
  aaa = λ c s m a b. subst (λ y. HasUnpackedSum y (unpacked (al_of g.cpu.ax) + unpacked (second_byte g i)
      + from_bool (carry_in c g)) (ah_of g.cpu.ax)) (sym (both g i j k n adjustment.AsciiAddition _ (ap operation_of m)
      (sum-is g i k c s h))) (unpacked_add (accumulator_of g) (second_byte g i) (carry_in c g) h a b);
  aas = λ c s m a b. subst (λ y. HasUnpackedDifference y (unpacked (second_byte g i) + from_bool (carry_in c g))
      (unpacked (al_of g.cpu.ax)) (ah_of g.cpu.ax)) (sym (both g i j k n adjustment.AsciiSubtraction _
      (ap operation_of m) (difference-is g i k c s h))) (unpacked_subtract (accumulator_of g) (second_byte g i)
      (carry_in c g) h a b);
  aam = λ s m a b. subst (λ y. HasDigits y (al_of g.cpu.ax * first_byte g i))
      (sym (both g i j k n adjustment.AsciiMultiplication _ (ap operation_of m) (product-is g i k s)))
      (unpacked_multiply (accumulator_of g) (first_byte g i) a b);
}
