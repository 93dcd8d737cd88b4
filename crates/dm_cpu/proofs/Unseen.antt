-- Operands and the stack do not depend on what no program sees, or change it
use Rattle.std.proofs.Common.{◌≡◌, ℕ, Option, refl}
use Rattle.dm_space.specs.Memory.{Memory}
use Rattle.dm_space.specs.Unseen.{IsUnseen}
use Rattle.dm_alu.specs.declared.width.Width.{Width}
use Rattle.dm_alu.specs.declared.width.Width.TheVariants.{Byte, Word}
use Rattle.dm_ins.specs.declared.operand.Width.TheVariants as memory
use Rattle.dm_ins.specs.declared.operand.Operand.{Operand}
use Rattle.dm_ins.specs.declared.operand.Operand.TheVariants as operand
use Rattle.dm_ins.specs.declared.operand.SegmentRegister.{SegmentRegister}
use Rattle.dm_cpu.specs.Guest.{Guest}
use Rattle.dm_cpu.specs.Operands.{value_of, with_operand, far_segment_of}
use Rattle.dm_cpu.specs.Values.{value_in, read_in, written_in}
use Rattle.dm_cpu.specs.Stack.{push, interrupt_return, far_returned}
use Rattle.dm_cpu.specs.Unseen.{changed}

pub value_of-unseen : (f : Memory → Memory) (u : IsUnseen f) (g : Guest) (override : Option SegmentRegister)
    (o : Operand) → value_of (changed f g) override o ≡ value_of g override o
unfolding value_of
value_of-unseen f u g override operand.Nothing = refl
value_of-unseen f u g override (operand.ByteRegister r) = refl
value_of-unseen f u g override (operand.WordRegister r) = refl
value_of-unseen f u g override (operand.SegmentRegister r) = refl
value_of-unseen f u g override (operand.Memory memory.Byte a) = simp (u.a20, u.peek_same)
value_of-unseen f u g override (operand.Memory memory.Word a) = simp (u.a20, u.peek_same)
value_of-unseen f u g override (operand.ByteValue n) = refl
value_of-unseen f u g override (operand.WordValue n) = refl
value_of-unseen f u g override operand.One = refl
value_of-unseen f u g override (operand.Target n) = refl
value_of-unseen f u g override (operand.FarTarget n s) = refl

pub with_operand-unseen : (f : Memory → Memory) (u : IsUnseen f) (g : Guest) (override : Option SegmentRegister)
    (o : Operand) (v : ℕ) → with_operand (changed f g) override o v ≡ changed f (with_operand g override o v)
unfolding with_operand
with_operand-unseen f u g override operand.Nothing v = refl
with_operand-unseen f u g override (operand.ByteRegister r) v = refl
with_operand-unseen f u g override (operand.WordRegister r) v = refl
with_operand-unseen f u g override (operand.SegmentRegister r) v = refl
with_operand-unseen f u g override (operand.Memory memory.Byte a) v = simp (u.a20, u.poke_same)
with_operand-unseen f u g override (operand.Memory memory.Word a) v = simp (u.a20, u.poke_same)
with_operand-unseen f u g override (operand.ByteValue n) v = refl
with_operand-unseen f u g override (operand.WordValue n) v = refl
with_operand-unseen f u g override operand.One v = refl
with_operand-unseen f u g override (operand.Target n) v = refl
with_operand-unseen f u g override (operand.FarTarget n s) v = refl

pub far_segment_of-unseen : (f : Memory → Memory) (u : IsUnseen f) (g : Guest) (override : Option SegmentRegister)
    (o : Operand) → far_segment_of (changed f g) override o ≡ far_segment_of g override o
unfolding far_segment_of
far_segment_of-unseen f u g override (operand.Memory w a) = simp (u.a20, u.peek_same)
far_segment_of-unseen f u g override _ = refl

pub value_in-unseen : (f : Memory → Memory) (u : IsUnseen f) (w : Width) (g : Guest) (override : Option SegmentRegister)
    (o : Operand) → value_in w (changed f g) override o ≡ value_in w g override o
unfolding value_in
value_in-unseen f u w g override o = simp (value_of-unseen f u)

pub read_in-unseen : (f : Memory → Memory) (u : IsUnseen f) (w : Width) (m : Memory) (s o : ℕ) →
    read_in w (f m) s o ≡ read_in w m s o
unfolding read_in
read_in-unseen f u Byte m s o = simp (u.a20, u.peek_same)
read_in-unseen f u Word m s o = simp (u.a20, u.peek_same)

pub written_in-unseen : (f : Memory → Memory) (u : IsUnseen f) (w : Width) (m : Memory) (s o v : ℕ) →
    written_in w (f m) s o v ≡ f (written_in w m s o v)
unfolding written_in
written_in-unseen f u Byte m s o v = simp (u.a20, u.poke_same)
written_in-unseen f u Word m s o v = simp (u.a20, u.poke_same)

pub push-unseen : (f : Memory → Memory) (u : IsUnseen f) (g : Guest) (v : ℕ) →
    push (changed f g) v ≡ changed f (push g v)
unfolding push
push-unseen f u g v = simp (u.a20, u.poke_same)

pub interrupt_return-unseen : (f : Memory → Memory) (u : IsUnseen f) (g : Guest) →
    interrupt_return (changed f g) ≡ changed f (interrupt_return g)
unfolding interrupt_return
interrupt_return-unseen f u g = simp (u.a20, u.peek_same)

pub far_returned-unseen : (f : Memory → Memory) (u : IsUnseen f) (g : Guest) (n : ℕ) →
    far_returned (changed f g) n ≡ changed f (far_returned g n)
unfolding far_returned
far_returned-unseen f u g n = simp (u.a20, u.peek_same)
