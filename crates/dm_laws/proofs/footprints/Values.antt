-- What operands hold in two memories that show the same bytes where the operands are.
use Rattle.std.proofs.Common.{◌≡◌, ℕ, ◌+◌, ◌*◌, ◌%◌, List, [], ◌∷◌, ◌++◌, Option, refl, ap, ap₂}
use Rattle.std.specs.Prelude.{All}
use Rattle.std.proofs.lemmas.List.Elements.{All-nil, All-cons, All-head, All-tail}
use Rattle.dm_space.specs.Memory.{Memory, peek16}
use Rattle.dm_alu.specs.declared.width.Width.{Width}
use Rattle.dm_alu.specs.declared.width.Width.TheVariants.{Byte, Word}
use Rattle.dm_alu.specs.Width.{size}
use Rattle.dm_ins.specs.declared.operand.Operand.{Operand}
use Rattle.dm_ins.specs.declared.operand.Operand.TheVariants as operand
use Rattle.dm_ins.specs.declared.operand.Width.TheVariants as memory
use Rattle.dm_ins.specs.declared.operand.SegmentRegister.{SegmentRegister}
use Rattle.dm_cpu.specs.declared.cpu.Cpu.{Cpu}
use Rattle.dm_cpu.specs.Guest.{guest, up}
use Rattle.dm_cpu.specs.Operands.{offset_of, segment_for, value_of, far_segment_of}
use Rattle.dm_cpu.specs.Values.{value_in, read_in}
use Rattle.dm_touches.specs.declared.elements.FarAddress.{FarAddress}
use Rattle.dm_touches.specs.declared.elements.Elements.{Elements}
use Rattle.dm_touches.specs.declared.elements.Element.TheVariants as element
use Rattle.dm_touches.specs.Elements.{far, bytes_in, bytes_if, bytes_of}
use Rattle.dm_touches.specs.Touches.{element_at, element_of, word_behind}
use Rattle.dm_laws.specs.footprints.Footprints.{seen}

-- ---- bytes

-- both memories show the same byte at an address
abbrev pub Same : Memory → Memory → FarAddress → Type 0
Same m n f = seen n f ≡ seen m f

pub front_of : (P : FarAddress → Type 0) (xs ys : List FarAddress) → All P (xs ++ ys) → All P xs
front_of P [] ys a = All-nil P
front_of P (x ∷ xs) ys a = All-cons P x xs (All-head P x (xs ++ ys) a) (front_of P xs ys (All-tail P x (xs ++ ys) a))

pub back_of : (P : FarAddress → Type 0) (xs ys : List FarAddress) → All P (xs ++ ys) → All P ys
back_of P [] ys a = a
back_of P (x ∷ xs) ys a = back_of P xs ys (All-tail P x (xs ++ ys) a)

pub in_first : (P : FarAddress → Type 0) (e : Elements) → All P (bytes_of e) → All P (bytes_if e.first)
in_first P e a = front_of P (bytes_if e.first) (bytes_if e.second) (front_of P (bytes_if e.first
    ++ bytes_if e.second) (bytes_if e.third) a)

pub in_second : (P : FarAddress → Type 0) (e : Elements) → All P (bytes_of e) → All P (bytes_if e.second)
in_second P e a = back_of P (bytes_if e.first) (bytes_if e.second) (front_of P (bytes_if e.first
    ++ bytes_if e.second) (bytes_if e.third) a)

pub in_third : (P : FarAddress → Type 0) (e : Elements) → All P (bytes_of e) → All P (bytes_if e.third)
in_third P e a = back_of P (bytes_if e.first ++ bytes_if e.second) (bytes_if e.third) a

pub same_byte : (m n : Memory) (s o : ℕ) → All (Same m n) (bytes_in (element.Byte s o)) →
    seen n (far s o) ≡ seen m (far s o)
same_byte m n s o a = All-head (Same m n) (far s o) [] a

pub same_word : (m n : Memory) (s o : ℕ) → All (Same m n) (bytes_in (element.Word s o)) → peek16 n s o ≡ peek16 m s o
same_word m n s o a =
    let high : List FarAddress = far s (up o 1) ∷ [] in
    ap₂ (λ (x y : ℕ). x + 256 * y) (All-head (Same m n) (far s o) high a) (All-head (Same m n) (far s (up o 1)) []
    (All-tail (Same m n) (far s o) high a))

-- ---- operands

pub same_value : (c : Cpu) (m n : Memory) (override : Option SegmentRegister) (o : Operand) →
    All (Same m n) (bytes_if (element_of c override o)) → value_of (guest c n) override o
    ≡ value_of (guest c m) override o
unfolding value_of element_of
same_value c m n override (operand.Memory memory.Byte x) a = same_byte m n (segment_for c override x) (offset_of c x) a
same_value c m n override (operand.Memory memory.Word x) a = same_word m n (segment_for c override x) (offset_of c x) a
same_value c m n override _ a = refl

pub same_value_in : (w : Width) (c : Cpu) (m n : Memory) (override : Option SegmentRegister) (o : Operand) →
    All (Same m n) (bytes_if (element_of c override o)) → value_in w (guest c n) override o
    ≡ value_in w (guest c m) override o
unfolding value_in
same_value_in w c m n override o a = ap (λ (v : ℕ). v % size w) (same_value c m n override o a)

pub same_segment : (c : Cpu) (m n : Memory) (override : Option SegmentRegister) (o : Operand) →
    All (Same m n) (bytes_if (word_behind c override o)) → far_segment_of (guest c n) override o
    ≡ far_segment_of (guest c m) override o
unfolding far_segment_of word_behind
same_segment c m n override (operand.Memory w x) a = same_word m n (segment_for c override x) (up (offset_of c x) 2) a
same_segment c m n override _ a = refl

pub same_element : (w : Width) (m n : Memory) (s o : ℕ) → All (Same m n) (bytes_in (element_at w s o)) →
    read_in w n s o ≡ read_in w m s o
unfolding read_in
same_element Byte m n s o a = same_byte m n s o a
same_element Word m n s o a = same_word m n s o a
