-- What is written to operands and to the stack.
use Rattle.std.proofs.Common.{◌≡◌, ℕ, ◌+◌, ◌%◌, List, [], ◌∷◌, ◌++◌, Option, Some, None, refl, sym, ◌∙◌, ap, ap₂, subst, append-nil}
use Rattle.dm_space.specs.Memory.{Memory}
use Rattle.dm_alu.specs.declared.width.Width.{Width}
use Rattle.dm_alu.specs.declared.width.Width.TheVariants.{Byte, Word}
use Rattle.dm_ins.specs.declared.operand.Base.{Base}
use Rattle.dm_ins.specs.declared.operand.Base.TheVariants as base
use Rattle.dm_ins.specs.declared.operand.Address.{Address}
use Rattle.dm_ins.specs.declared.operand.Operand.{Operand}
use Rattle.dm_ins.specs.declared.operand.Operand.TheVariants as operand
use Rattle.dm_ins.specs.declared.operand.Width.TheVariants as memory
use Rattle.dm_ins.specs.declared.operand.SegmentRegister.{SegmentRegister}
use Rattle.dm_ins.specs.declared.operand.SegmentRegister.TheVariants as in_segment
use Rattle.dm_cpu.specs.declared.cpu.Cpu.{Cpu}
use Rattle.dm_cpu.specs.Cpu.{segment_of}
use Rattle.dm_cpu.specs.EffectiveAddress.{own_segment}
use Rattle.dm_cpu.specs.Guest.{Guest, up, down}
use Rattle.dm_cpu.specs.Operands.{base_of, offset_of, data_segment, segment_for, with_operand}
use Rattle.dm_cpu.specs.Stack.{push}
use Rattle.dm_cpu.specs.Values.{written_in}
use Rattle.dm_operations.specs.Stack.{through_vector, interrupt}
use Rattle.dm_touches.specs.declared.elements.FarAddress.{FarAddress}
use Rattle.dm_touches.specs.declared.elements.Element.{Element}
use Rattle.dm_touches.specs.declared.elements.Element.TheVariants as element
use Rattle.dm_touches.specs.Elements.{bytes_in, bytes_if, bytes_of, one_element, two_elements, three}
use Rattle.dm_touches.specs.Touches.{element_at, element_of, pushed, pushed_by_interrupt}
use Rattle.dm_touches.specs.Laws.{KeepsOthers}
use Rattle.dm_touches.proofs.Places.{keeps_all, keeps_as, keeps_then, keeps_byte, keeps_word, keeps_one, keeps_two}

-- ---- registers by which operands are addressed

pub record Addresses (c d : Cpu) : Type 0 where
  pub bx : c.bx ≡ d.bx
  pub bp : c.bp ≡ d.bp
  pub si : c.si ≡ d.si
  pub di : c.di ≡ d.di
  pub es : c.es ≡ d.es
  pub cs : c.cs ≡ d.cs
  pub ss : c.ss ≡ d.ss
  pub ds : c.ds ≡ d.ds

same_base : (c d : Cpu) → Addresses c d → (b : Base) → base_of c b ≡ base_of d b
unfolding base_of
same_base c d a base.Direct = refl
same_base c d a base.BxSi = ap₂ (λ (x y : ℕ). up x y) a.bx a.si
same_base c d a base.BxDi = ap₂ (λ (x y : ℕ). up x y) a.bx a.di
same_base c d a base.BpSi = ap₂ (λ (x y : ℕ). up x y) a.bp a.si
same_base c d a base.BpDi = ap₂ (λ (x y : ℕ). up x y) a.bp a.di
same_base c d a base.OnSi = a.si
same_base c d a base.OnDi = a.di
same_base c d a base.OnBp = a.bp
same_base c d a base.OnBx = a.bx

same_register : (c d : Cpu) → Addresses c d → (r : SegmentRegister) → segment_of c r ≡ segment_of d r
unfolding segment_of
same_register c d a in_segment.Es = a.es
same_register c d a in_segment.Cs = a.cs
same_register c d a in_segment.Ss = a.ss
same_register c d a in_segment.Ds = a.ds

same_segment : (c d : Cpu) → Addresses c d → (override : Option SegmentRegister) (x : Address) →
    segment_for c override x ≡ segment_for d override x
same_segment c d a None x = same_register c d a (own_segment x.base)
same_segment c d a (Some r) x = same_register c d a r

same_offset : (c d : Cpu) → Addresses c d → (x : Address) → offset_of c x ≡ offset_of d x
same_offset c d a x = ap (λ (n : ℕ). up n x.displacement) (same_base c d a x.base)

same_element : (c d : Cpu) → Addresses c d → (override : Option SegmentRegister) (o : Operand) →
    element_of c override o ≡ element_of d override o
unfolding element_of
same_element c d a override (operand.Memory memory.Byte x) =
    ap₂ (λ (s n : ℕ). Some (element.Byte s n)) (same_segment c d a override x) (same_offset c d a x)
same_element c d a override (operand.Memory memory.Word x) =
    ap₂ (λ (s n : ℕ). Some (element.Word s n)) (same_segment c d a override x) (same_offset c d a x)
same_element c d a override _ = refl

-- ---- operands

operand_keeps : (g : Guest) (override : Option SegmentRegister) (o : Operand) (v : ℕ) →
    KeepsOthers g.memory (with_operand g override o v).memory (bytes_if (element_of g.cpu override o))
unfolding with_operand element_of
operand_keeps g override (operand.Memory memory.Byte a) v =
    keeps_byte g.memory (segment_for g.cpu override a) (offset_of g.cpu a) (v % 256)
operand_keeps g override (operand.Memory memory.Word a) v =
    keeps_word g.memory (segment_for g.cpu override a) (offset_of g.cpu a) v
operand_keeps g override _ v = keeps_all g.memory

-- an operand that is written when registers have changed by which no operand is addressed
pub keeps_operand : (g h : Guest) (override : Option SegmentRegister) (o : Operand) (v : ℕ) → Addresses h.cpu g.cpu →
    h.memory ≡ g.memory → KeepsOthers g.memory (with_operand h override o v).memory
    (bytes_of (one_element (element_of g.cpu override o)))
keeps_operand g h override o v a same =
    let n : Memory = (with_operand h override o v).memory in
    let F : Memory → Type 0 = λ m. KeepsOthers m n (bytes_if (element_of g.cpu override o)) in
    keeps_one g.memory n (element_of g.cpu override o) (subst F same (keeps_as h.memory n _ _
    (ap bytes_if (same_element h.cpu g.cpu a override o)) (operand_keeps h override o v)))

-- two operands, one after the other
pub keeps_operands : (g : Guest) (override : Option SegmentRegister) (a b : Operand) (v w : ℕ) →
    KeepsOthers g.memory (with_operand (with_operand g override a v) override b w).memory
    (bytes_of (two_elements (element_of g.cpu override a) (element_of (with_operand g override a v).cpu override b)))
keeps_operands g override a b v w = keeps_two g.memory _ (element_of g.cpu override a)
    (element_of (with_operand g override a v).cpu override b) (keeps_then g.memory (with_operand g override a v).memory
    _ _ _ (operand_keeps g override a v) (operand_keeps (with_operand g override a v) override b w))

-- ---- the stack

push_keeps : (g : Guest) (v : ℕ) → KeepsOthers g.memory (push g v).memory (bytes_if (pushed g.cpu))
unfolding push
push_keeps g v = keeps_word g.memory g.cpu.ss (down g.cpu.sp 2) v

pub keeps_push : (g : Guest) (v : ℕ) → KeepsOthers g.memory (push g v).memory (bytes_of (one_element (pushed g.cpu)))
keeps_push g v = keeps_one g.memory (push g v).memory (pushed g.cpu) (push_keeps g v)

pub keeps_pushes : (g : Guest) (v w : ℕ) → KeepsOthers g.memory (push (push g v) w).memory (bytes_if (pushed g.cpu)
    ++ bytes_if (pushed (push g v).cpu))
keeps_pushes g v w = keeps_then g.memory (push g v).memory _ _ _ (push_keeps g v) (push_keeps (push g v) w)

pub keeps_interrupt : (g : Guest) (n : ℕ) → KeepsOthers g.memory (interrupt g n).memory
    (bytes_of (pushed_by_interrupt g.cpu))
unfolding interrupt through_vector push
keeps_interrupt g n = keeps_then g.memory _ _ _ _ (keeps_pushes g _ _) (push_keeps (push (push g _) _) _)

-- ---- strings

pub keeps_written : (w : Width) (m : Memory) (s o v : ℕ) →
    KeepsOthers m (written_in w m s o v) (bytes_in (element_at w s o))
unfolding written_in
keeps_written Byte m s o v = keeps_byte m s o (v % 256)
keeps_written Word m s o v = keeps_word m s o v
