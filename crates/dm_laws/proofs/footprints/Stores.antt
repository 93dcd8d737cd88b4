-- What is stored in operands and on the stack, as lists of bytes: the same in any memory.
use Rattle.std.proofs.Common.{◌≡◌, ℕ, ◌/◌, ◌%◌, Bool, List, [], ◌∷◌, ◌++◌, map, Option, Some, None, refl, sym, ◌∙◌, ap, ap₂, subst, append-nil}
use Rattle.std.proofs.lemmas.List.{map-append}
use Rattle.dm_space.specs.Memory.{Memory, linear, poke, poke16}
use Rattle.dm_space.proofs.Places.{poke-shaped}
use Rattle.dm_alu.specs.declared.flags.Flags.{Flags}
use Rattle.dm_alu.specs.declared.width.Width.{Width}
use Rattle.dm_alu.specs.declared.width.Width.TheVariants.{Byte, Word}
use Rattle.dm_ins.specs.declared.operand.Base.{Base}
use Rattle.dm_ins.specs.declared.operand.Base.TheVariants as base
use Rattle.dm_ins.specs.declared.operand.Address.{Address}
use Rattle.dm_ins.specs.declared.operand.Operand.{Operand}
use Rattle.dm_ins.specs.declared.operand.Operand.TheVariants as operand
use Rattle.dm_ins.specs.declared.operand.Width.TheVariants as memory
use Rattle.dm_ins.specs.declared.operand.SegmentRegister.{SegmentRegister}
use Rattle.dm_ins.specs.declared.operand.SegmentRegister.TheVariants as in_segment
use Rattle.dm_cpu.specs.declared.cpu.Cpu.{Cpu}
use Rattle.dm_cpu.specs.Cpu.{segment_of}
use Rattle.dm_cpu.specs.EffectiveAddress.{own_segment}
use Rattle.dm_cpu.specs.Guest.{Guest, guest, up, down}
use Rattle.dm_cpu.specs.Operands.{base_of, offset_of, segment_for, with_operand, with_result}
use Rattle.dm_cpu.specs.Stack.{push}
use Rattle.dm_cpu.specs.Values.{written_in}
use Rattle.dm_touches.specs.declared.elements.FarAddress.{FarAddress}
use Rattle.dm_touches.specs.declared.elements.Element.{Element}
use Rattle.dm_touches.specs.declared.elements.Element.TheVariants as element
use Rattle.dm_touches.specs.Elements.{far, bytes_in, bytes_if, bytes_of, one_element, two_elements}
use Rattle.dm_touches.specs.Touches.{element_at, element_of, pushed}
use Rattle.dm_laws.specs.footprints.Footprints.{StoredByte, stored}

-- ---- the same done in two memories

-- guest a comes from memory m, and guest b from memory n, by one list of stores, at these addresses; their registers
-- and flags are the same
pub record Done (m n : Memory) (a b : Guest) (fs : List FarAddress) : Type 0 where
  pub registers : b.cpu ≡ a.cpu
  pub stores : List StoredByte
  pub addresses : map (λ s. s.address) stores ≡ fs
  pub in_m : a.memory ≡ stored m stores
  pub in_n : b.memory ≡ stored n stores

-- nothing is stored
pub done_registers : (m n : Memory) (c d : Cpu) → d ≡ c → Done m n (guest c m) (guest d n) []
done_registers m n c d e = record { registers = e; stores = []; addresses = refl; in_m = refl; in_n = refl }

pub done_as : (m n : Memory) (a b : Guest) (fs gs : List FarAddress) → fs ≡ gs → Done m n a b fs → Done m n a b gs
done_as m n a b fs gs e d = record {
  registers = d.registers;
  stores = d.stores;
  addresses = d.addresses ∙ e;
  in_m = d.in_m;
  in_n = d.in_n;
}

-- other registers, the same in both
pub done_with : (m n : Memory) (a b : Guest) (fs : List FarAddress) (c d : Cpu) → d ≡ c → Done m n a b fs →
    Done m n (guest c a.memory) (guest d b.memory) fs
done_with m n a b fs c d e k = record {
  registers = e;
  stores = k.stores;
  addresses = k.addresses;
  in_m = k.in_m;
  in_n = k.in_n;
}

pub stored_append : (ss ts : List StoredByte) (m : Memory) → stored (stored m ss) ts ≡ stored m (ss ++ ts)
stored_append [] ts m = refl
stored_append (s ∷ ss) ts m = stored_append ss ts _

-- one after the other
pub done_then : (m n : Memory) (a b c d : Guest) (fs gs : List FarAddress) → Done m n a b fs →
    Done a.memory b.memory c d gs → Done m n c d (fs ++ gs)
done_then m n a b c d fs gs k l =
    let address : StoredByte → FarAddress = λ s. s.address in
    record {
      registers = l.registers;
      stores = k.stores ++ l.stores;
      addresses = map-append address k.stores l.stores ∙ ap₂ (λ (x y : List FarAddress). x
          ++ y) k.addresses l.addresses;
      in_m = l.in_m ∙ ap (λ (x : Memory). stored x l.stores) k.in_m ∙ stored_append k.stores l.stores m;
      in_n = l.in_n ∙ ap (λ (x : Memory). stored x l.stores) k.in_n ∙ stored_append k.stores l.stores n;
    }

pub done_one : (m n : Memory) (a b : Guest) (e : Option Element) → Done m n a b (bytes_if e) →
    Done m n a b (bytes_of (one_element e))
done_one m n a b e d = done_as m n a b _ _ (sym (append-nil (bytes_if e ++ []) ∙ append-nil (bytes_if e))) d

pub done_two : (m n : Memory) (a b : Guest) (e f : Option Element) → Done m n a b (bytes_if e ++ bytes_if f) →
    Done m n a b (bytes_of (two_elements e f))
done_two m n a b e f d = done_as m n a b _ _ (sym (append-nil (bytes_if e ++ bytes_if f))) d

-- ---- elements

abbrev store : ℕ → ℕ → ℕ → StoredByte
store segment offset byte = record { address = far segment offset; byte = byte }

abbrev stores_in : Element → ℕ → List StoredByte
stores_in (element.Byte s o) v = store s o (v % 256) ∷ []
stores_in (element.Word s o) v = store s o (v % 256) ∷ store s (up o 1) (v / 256) ∷ []

abbrev stores_if : Option Element → ℕ → List StoredByte
stores_if None v = []
stores_if (Some e) v = stores_in e v

addresses_in : (e : Element) (v : ℕ) → map (λ (s : StoredByte). s.address) (stores_in e v) ≡ bytes_in e
addresses_in (element.Byte s o) v = refl
addresses_in (element.Word s o) v = refl

addresses_if : (e : Option Element) (v : ℕ) → map (λ (s : StoredByte). s.address) (stores_if e v) ≡ bytes_if e
addresses_if None v = refl
addresses_if (Some e) v = addresses_in e v

word_stored : (m : Memory) (s o v : ℕ) → poke16 m s o v ≡ stored m (stores_in (element.Word s o) v)
word_stored m s o v =
    let n : Memory = poke m (linear m.a20 s o) (v % 256) in
    ap (λ (b : Bool). poke n (linear b s (up o 1)) (v / 256)) (sym (poke-shaped m (linear m.a20 s o) (v % 256)).a20)

-- ---- operands

operand_stored : (c : Cpu) (m : Memory) (override : Option SegmentRegister) (o : Operand) (v : ℕ) →
    (with_operand (guest c m) override o v).memory ≡ stored m (stores_if (element_of c override o) v)
unfolding with_operand element_of
operand_stored c m override (operand.Memory memory.Byte a) v = refl
operand_stored c m override (operand.Memory memory.Word a) v =
    word_stored m (segment_for c override a) (offset_of c a) v
operand_stored c m override _ v = refl

operand_registers : (c : Cpu) (m n : Memory) (override : Option SegmentRegister) (o : Operand) (v : ℕ) →
    (with_operand (guest c n) override o v).cpu ≡ (with_operand (guest c m) override o v).cpu
unfolding with_operand
operand_registers c m n override (operand.Memory memory.Byte a) v = refl
operand_registers c m n override (operand.Memory memory.Word a) v = refl
operand_registers c m n override _ v = refl

pub done_operand : (c : Cpu) (m n : Memory) (override : Option SegmentRegister) (o : Operand) (v w : ℕ) → w ≡ v →
    Done m n (with_operand (guest c m) override o v) (with_operand (guest c n) override o w)
    (bytes_if (element_of c override o))
done_operand c m n override o v w e =
    subst (λ (x : ℕ). Done m n (with_operand (guest c m) override o v) (with_operand (guest c n) override o x)
    (bytes_if (element_of c override o))) (sym e) (record {
      registers = operand_registers c m n override o v;
      stores = stores_if (element_of c override o) v;
      addresses = addresses_if (element_of c override o) v;
      in_m = operand_stored c m override o v;
      in_n = operand_stored c n override o v;
    })

-- an operand of two guests with the same registers
pub done_from : (a b : Guest) (override : Option SegmentRegister) (o : Operand) (v w : ℕ) → b.cpu ≡ a.cpu → w ≡ v →
    Done a.memory b.memory (with_operand a override o v) (with_operand b override o w)
    (bytes_if (element_of a.cpu override o))
done_from a b override o v w e k =
    subst (λ (d : Cpu). Done a.memory b.memory (with_operand a override o v)
    (with_operand (guest d b.memory) override o w) (bytes_if (element_of a.cpu override o))) (sym e)
    (done_operand a.cpu a.memory b.memory override o v w k)

-- ---- operands when flags or SP have changed, by which none is addressed

abbrev changed : Cpu → ℕ → Flags → Cpu
changed c sp flags = record c { sp = sp; flags = flags }

changed_base : (c : Cpu) (sp : ℕ) (f : Flags) (b : Base) → base_of (changed c sp f) b ≡ base_of c b
unfolding base_of
changed_base c sp f base.Direct = refl
changed_base c sp f _ = refl

changed_register : (c : Cpu) (sp : ℕ) (f : Flags) (r : SegmentRegister) → segment_of (changed c sp f) r ≡ segment_of c r
unfolding segment_of
changed_register c sp f in_segment.Es = refl
changed_register c sp f _ = refl

changed_segment : (c : Cpu) (sp : ℕ) (f : Flags) (override : Option SegmentRegister) (a : Address) →
    segment_for (changed c sp f) override a ≡ segment_for c override a
changed_segment c sp f None a = changed_register c sp f (own_segment a.base)
changed_segment c sp f (Some r) a = changed_register c sp f r

changed_element : (c : Cpu) (sp : ℕ) (f : Flags) (override : Option SegmentRegister) (o : Operand) →
    element_of (changed c sp f) override o ≡ element_of c override o
unfolding element_of
changed_element c sp f override (operand.Memory memory.Byte a) =
    ap₂ (λ (s b : ℕ). Some (element.Byte s (up b a.displacement))) (changed_segment c sp f override a)
    (changed_base c sp f a.base)
changed_element c sp f override (operand.Memory memory.Word a) =
    ap₂ (λ (s b : ℕ). Some (element.Word s (up b a.displacement))) (changed_segment c sp f override a)
    (changed_base c sp f a.base)
changed_element c sp f override _ = refl

-- an operand that takes a value when SP and the flags have changed
pub done_changed : (c : Cpu) (m n : Memory) (override : Option SegmentRegister) (o : Operand) (sp : ℕ) (f g : Flags)
    (v w : ℕ) → w ≡ v → g ≡ f → Done m n (with_operand (guest (changed c sp f) m) override o v)
    (with_operand (guest (changed c sp g) n) override o w) (bytes_of (one_element (element_of c override o)))
done_changed c m n override o sp f g v w e k =
    let a : Guest = with_operand (guest (changed c sp f) m) override o v in
    let F : Flags → Type 0 = λ x. Done m n a (with_operand (guest (changed c sp x) n) override o w)
    (bytes_of (one_element (element_of c override o))) in
    subst F (sym k) (done_one m n a _ (element_of c override o) (done_as m n a _ _ _
    (ap bytes_if (changed_element c sp f override o)) (done_operand (changed c sp f) m n override o v w e)))

-- a result and its flags
pub done_result : (c : Cpu) (m n : Memory) (override : Option SegmentRegister) (o : Operand) (v w : ℕ) (f g : Flags) →
    w ≡ v → g ≡ f → Done m n (with_result (guest c m) override o v f) (with_result (guest c n) override o w g)
    (bytes_of (one_element (element_of c override o)))
done_result c m n override o v w f g e k = done_changed c m n override o c.sp f g v w e k

-- ---- the stack, and strings

pub done_push : (c : Cpu) (m n : Memory) (v w : ℕ) → w ≡ v → Done m n (push (guest c m) v) (push (guest c n) w)
    (bytes_if (pushed c))
unfolding push
done_push c m n v w e =
    subst (λ (x : ℕ). Done m n (push (guest c m) v) (push (guest c n) x) (bytes_if (pushed c))) (sym e) (record {
      registers = refl;
      stores = stores_in (element.Word c.ss (down c.sp 2)) v;
      addresses = refl;
      in_m = word_stored m c.ss (down c.sp 2) v;
      in_n = word_stored n c.ss (down c.sp 2) v;
    })

written_stored : (w : Width) (m : Memory) (s o v : ℕ) → written_in w m s o v ≡ stored m (stores_in (element_at w s o) v)
unfolding written_in
written_stored Byte m s o v = refl
written_stored Word m s o v = word_stored m s o v

pub done_written : (w : Width) (c : Cpu) (m n : Memory) (s o v x : ℕ) → x ≡ v →
    Done m n (guest c (written_in w m s o v)) (guest c (written_in w n s o x)) (bytes_if (Some (element_at w s o)))
done_written w c m n s o v x e =
    subst (λ (y : ℕ). Done m n (guest c (written_in w m s o v)) (guest c (written_in w n s o y))
    (bytes_if (Some (element_at w s o)))) (sym e) (record {
      registers = refl;
      stores = stores_in (element_at w s o) v;
      addresses = addresses_in (element_at w s o) v;
      in_m = written_stored w m s o v;
      in_n = written_stored w n s o v;
    })
