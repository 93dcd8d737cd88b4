-- The bytes of a template with what its operands ask for spell the action.
use Rattle.std.proofs.Common.{◌≡◌, ℕ, ◌+◌, ◌*◌, ◌/◌, ◌%◌, ◌^◌, ◌<◌, Bool, true, false, List, [], ◌∷◌, get_or, Option, Some, None, refl, sym, ap, subst, ◌∙◌, arith, inl, inr, eqb}
use Rattle.std.specs.Prelude.{◌⊎◌, cond}
use Rattle.std.proofs.lemmas.Bool.{eqb-true}
use Rattle.std.proofs.lemmas.Bool.Decides.{eqb_tells}
use Rattle.dm_ins.specs.declared.operand.Width.{Width}
use Rattle.dm_ins.specs.declared.operand.Width.TheVariants.{Byte, Word}
use Rattle.dm_ins.specs.declared.operand.WordRegister.{WordRegister}
use Rattle.dm_ins.specs.declared.operand.WordRegister.TheVariants.{Ax, Cx, Dx, Bx, Sp, Bp, Si, Di}
use Rattle.dm_ins.specs.declared.operand.ByteRegister.{ByteRegister}
use Rattle.dm_ins.specs.declared.operand.ByteRegister.TheVariants.{Al, Cl, Dl, Bl, Ah, Ch, Dh, Bh}
use Rattle.dm_ins.specs.declared.operand.SegmentRegister.{SegmentRegister}
use Rattle.dm_ins.specs.declared.operand.SegmentRegister.TheVariants.{Es, Cs, Ss, Ds}
use Rattle.dm_ins.specs.declared.operand.Base.{Base}
use Rattle.dm_ins.specs.declared.operand.Base.TheVariants.{Direct, BxSi, BxDi, BpSi, BpDi, OnSi, OnDi, OnBp, OnBx}
use Rattle.dm_ins.specs.declared.operand.Address.{Address}
use Rattle.dm_ins.specs.declared.fields.Fields.{Fields}
use Rattle.dm_ins.specs.declared.operand.Operand.{Operand}
use Rattle.dm_ins.specs.declared.operand.Operand.TheVariants as operand
use Rattle.dm_ins.specs.declared.demand.RegisterOrMemory.{RegisterOrMemory}
use Rattle.dm_ins.specs.declared.demand.RegisterOrMemory.TheVariants as place
use Rattle.dm_ins.specs.declared.demand.Data.TheVariants as data_is
use Rattle.dm_ins.specs.declared.demand.Demand.{Demand}
use Rattle.dm_ins.specs.declared.table.OperandKind.{OperandKind}
use Rattle.dm_ins.specs.declared.table.OperandKind.TheVariants as is
use Rattle.dm_ins.specs.Registers.{word_registers, byte_registers, word_number, byte_register_number, segment_number}
use Rattle.dm_ins.specs.Spelling.{word_bytes, sign_extended, based, direct, SpellsFields, Fills}
use Rattle.dm_ins.specs.inner.Search.{OperandFits, rm_of, is_direct, same_width, asks_data, asks_register, asks_place, as_signed, demand_of, data_bytes, with_displacement, memory_bytes, fields_bytes}
use Rattle.dm_ins.proofs.Demands.{asks_for_register, asks_for_place, asked, named_place, base_at}

byte_back : (r : ByteRegister) → get_or byte_registers (byte_register_number r) Al ≡ r
byte_back Al = refl
byte_back Cl = refl
byte_back Dl = refl
byte_back Bl = refl
byte_back Ah = refl
byte_back Ch = refl
byte_back Dh = refl
byte_back Bh = refl

word_back : (r : WordRegister) → get_or word_registers (word_number r) Ax ≡ r
word_back Ax = refl
word_back Cx = refl
word_back Dx = refl
word_back Bx = refl
word_back Sp = refl
word_back Bp = refl
word_back Si = refl
word_back Di = refl

segments : List SegmentRegister
segments = Es ∷ Cs ∷ Ss ∷ Ds ∷ []

segment_back : (r : SegmentRegister) → get_or segments (segment_number r) Es ≡ r
unfolding segments
segment_back Es = refl
segment_back Cs = refl
segment_back Ss = refl
segment_back Ds = refl

pub chosen_true : {A : Type 0} (b : Bool) (x e : A) → cond b (Some x) None ≡ Some e → (b ≡ true) × (x ≡ e)
chosen_true true x e h = (refl, cc)
chosen_true false x e h = absurd cc

chosen_some : {A : Type 0} (b : Bool) (o : Option A) (e : A) → cond b o None ≡ Some e → o ≡ Some e
chosen_some true o e h = h
chosen_some false o e h = absurd cc

pub is_some : {A : Type 0} (x e : A) → Some x ≡ Some e → x ≡ e
is_some x e h = cc

same_is : (w v : Width) → same_width w v ≡ true → w ≡ v
same_is Byte Byte e = refl
same_is Word Word e = refl
same_is Byte Word e = absurd cc
same_is Word Byte e = absurd cc

direct_is : (a : Address) → is_direct a.base ≡ true → a ≡ direct a.displacement
direct_is a e = by a.base e refl
  where
    by : (b : Base) → is_direct b ≡ true → a.base ≡ b → a ≡ direct a.displacement
    by Direct e f = ap (λ (b : Base). let x : Address = record { base = b; displacement = a.displacement } in x) f
    by BxSi e f = absurd cc
    by BxDi e f = absurd cc
    by BpSi e f = absurd cc
    by BpDi e f = absurd cc
    by OnSi e f = absurd cc
    by OnDi e f = absurd cc
    by OnBp e f = absurd cc
    by OnBx e f = absurd cc

place_memory : (n : ℕ) (o : Option Address) (a : Address) → Some (place.Memory a) ≡ Some (named_place n o) → o ≡ Some a
place_memory n None a e = absurd cc
place_memory n (Some b) a e = cc

place_register : (n : ℕ) (o : Option Address) (k : ℕ) → Some (place.Register k) ≡ Some (named_place n o) → (o ≡ None) ×
    (n ≡ k)
place_register n None k e = (refl, cc)
place_register n (Some b) k e = absurd cc

signed_is : (n : ℕ) (e : Demand) → as_signed n ≡ Some e → (n ≡ sign_extended (n % 256)) ×
    (data_bytes e.tail ≡ n % 256 ∷ [])
signed_is n e h =
    let c = chosen_true (eqb (sign_extended (n % 256)) n) (asks_data (data_is.Byte (n % 256))) e h in
    (sym (eqb-true (sign_extended (n % 256)) n c.0), ap (λ (x : Demand). data_bytes x.tail) (sym c.1))

tail_is : (x e : Demand) → x ≡ e → data_bytes e.tail ≡ data_bytes x.tail
tail_is x e h = ap (λ (y : Demand). data_bytes y.tail) (sym h)

direct_kind : (w v : Width) (a : Address) (e : Demand) →
    cond (same_width w v) (cond (is_direct a.base) (Some (asks_data (data_is.Word a.displacement))) None) None
    ≡ Some e → (w ≡ v) × (a ≡ direct a.displacement) × (data_bytes e.tail ≡ word_bytes a.displacement)
direct_kind w v a e h = by (same_width w v) (is_direct a.base) refl refl h
  where
    by : (s t : Bool) → same_width w v ≡ s → is_direct a.base ≡ t →
        cond s (cond t (Some (asks_data (data_is.Word a.displacement))) None) None ≡ Some e → (w ≡ v) ×
        (a ≡ direct a.displacement) × (data_bytes e.tail ≡ word_bytes a.displacement)
    by true true p q h = (
      same_is w v p,
      direct_is a q,
      tail_is _ e (is_some (asks_data (data_is.Word a.displacement)) e h),
    )
    by true false p q h = absurd cc
    by false t p q h = absurd cc

module _ (m : Fields) (e : Demand) where
  abbrev pub Goal : OperandKind → Operand → Type 0
  Goal k o = OperandFits o → demand_of k o ≡ Some e → e.register ≡ asked (asks_for_register k) m.register →
      e.place ≡ asked (asks_for_place k) (named_place m.rm m.memory) → Fills k m o (data_bytes e.tail)

  pub operand_fills : (k : OperandKind) (o : Operand) → Goal k o
  unfolding demand_of
  operand_fills is.Nothing operand.Nothing f h r p = (refl, tail_is _ e (is_some (asks_data data_is.Nothing) e h))
  operand_fills is.Nothing _ f h r p = absurd cc
  operand_fills (is.RegisterOrMemory w) (operand.Memory v a) f h r p =
      let c = chosen_true (same_width w v) (asks_place (place.Memory a)) e h in
      let q = place_memory m.rm m.memory a (ap (λ (x : Demand). x.place) c.1 ∙ p) in
      (rw (q, same_is w v c.0) refl, tail_is _ e c.1)
  operand_fills (is.RegisterOrMemory Byte) (operand.ByteRegister s) f h r p =
      let c = is_some (asks_place (place.Register (byte_register_number s))) e h in
      let q = place_register m.rm m.memory (byte_register_number s) (ap (λ (x : Demand). x.place) c ∙ p) in
      (rw (q.0, q.1, byte_back s) refl, tail_is _ e c)
  operand_fills (is.RegisterOrMemory Word) (operand.WordRegister s) f h r p =
      let c = is_some (asks_place (place.Register (word_number s))) e h in
      let q = place_register m.rm m.memory (word_number s) (ap (λ (x : Demand). x.place) c ∙ p) in
      (rw (q.0, q.1, word_back s) refl, tail_is _ e c)
  operand_fills (is.RegisterOrMemory Byte) _ f h r p = absurd cc
  operand_fills (is.RegisterOrMemory Word) _ f h r p = absurd cc
  operand_fills (is.Register Byte) (operand.ByteRegister s) f h r p =
      let c = is_some (asks_register (byte_register_number s)) e h in
      let q : byte_register_number s ≡ m.register = is_some _ _ (ap (λ (x : Demand). x.register) c ∙ r) in
      (rw (← q, byte_back s) refl, tail_is _ e c)
  operand_fills (is.Register Word) (operand.WordRegister s) f h r p =
      let c = is_some (asks_register (word_number s)) e h in
      let q : word_number s ≡ m.register = is_some _ _ (ap (λ (x : Demand). x.register) c ∙ r) in
      (rw (← q, word_back s) refl, tail_is _ e c)
  operand_fills (is.Register Byte) _ f h r p = absurd cc
  operand_fills (is.Register Word) _ f h r p = absurd cc
  operand_fills is.Memory (operand.Memory v a) f h r p =
      let c = chosen_true (same_width Word v) (asks_place (place.Memory a)) e h in
      let q = place_memory m.rm m.memory a (ap (λ (x : Demand). x.place) c.1 ∙ p) in
      (a, q, rw (← same_is Word v c.0) refl, tail_is _ e c.1)
  operand_fills is.Memory _ f h r p = absurd cc
  operand_fills is.ByteValue (operand.ByteValue n) f h r p =
      (n, f, refl, tail_is _ e (is_some (asks_data (data_is.Byte n)) e h))
  operand_fills is.ByteValue _ f h r p = absurd cc
  operand_fills is.WordValue (operand.WordValue n) f h r p =
      (n, f, refl, tail_is _ e (is_some (asks_data (data_is.Word n)) e h))
  operand_fills is.WordValue _ f h r p = absurd cc
  operand_fills is.SignedValue (operand.WordValue n) f h r p = let s = signed_is n e h in
      (n % 256, omega arith, ap operand.WordValue s.0, s.1)
  operand_fills is.SignedValue _ f h r p = absurd cc
  operand_fills is.Short (operand.Target n) f h r p = let s = signed_is n e h in
      (n % 256, omega arith, ap operand.Target s.0, s.1)
  operand_fills is.Short _ f h r p = absurd cc
  operand_fills is.Near (operand.Target n) f h r p =
      (n, f, refl, tail_is _ e (is_some (asks_data (data_is.Word n)) e h))
  operand_fills is.Near _ f h r p = absurd cc
  operand_fills (is.Direct w) (operand.Memory v a) f h r p = let c = direct_kind w v a e h in
      (a.displacement, f, rw (← c.0) (ap (operand.Memory w) c.1), c.2)
  operand_fills (is.Direct w) _ f h r p = absurd cc
  operand_fills is.Far (operand.FarTarget n s) f h r p = (
    n,
    s,
    f.0,
    f.1,
    refl,
    tail_is _ e (is_some (asks_data (data_is.Words n s)) e h),
  )
  operand_fills is.Far _ f h r p = absurd cc
  operand_fills (is.Escape k) (operand.ByteValue n) f h r p =
      let c = chosen_true (eqb (n / 8) (k % 8)) (asks_register (n % 8)) e h in
      let q : n % 8 ≡ m.register = is_some _ _ (ap (λ (x : Demand). x.register) c.1 ∙ r) in
      let t : n / 8 ≡ k % 8 = eqb-true (n / 8) (k % 8) c.0 in
      let u : n ≡ 8 * (k % 8) + m.register = omega arith in
      (ap operand.ByteValue u, tail_is _ e c.1)
  operand_fills (is.Escape k) _ f h r p = absurd cc
  operand_fills (is.Byte k) (operand.ByteRegister s) f h r p =
      let c = chosen_true (eqb (byte_register_number k) (byte_register_number s)) (asks_data data_is.Nothing) e h in (
        ap operand.ByteRegister (sym (byte_back s) ∙ ap (λ n. get_or byte_registers n Al) (sym (eqb-true _ _ c.0))
            ∙ byte_back k),
        tail_is _ e c.1,
      )
  operand_fills (is.Byte k) _ f h r p = absurd cc
  operand_fills (is.Word k) (operand.WordRegister s) f h r p =
      let c = chosen_true (eqb (word_number k) (word_number s)) (asks_data data_is.Nothing) e h in (
        ap operand.WordRegister (sym (word_back s) ∙ ap (λ n. get_or word_registers n Ax) (sym (eqb-true _ _ c.0))
            ∙ word_back k),
        tail_is _ e c.1,
      )
  operand_fills (is.Word k) _ f h r p = absurd cc
  operand_fills (is.TheSegment k) (operand.SegmentRegister s) f h r p =
      let c = chosen_true (eqb (segment_number k) (segment_number s)) (asks_data data_is.Nothing) e h in (
        ap operand.SegmentRegister (sym (segment_back s) ∙ ap (λ n. get_or segments n Es) (sym (eqb-true _ _ c.0))
            ∙ segment_back k),
        tail_is _ e c.1,
      )
  operand_fills (is.TheSegment k) _ f h r p = absurd cc
  operand_fills is.One operand.One f h r p = (refl, tail_is _ e (is_some (asks_data data_is.Nothing) e h))
  operand_fills is.One _ f h r p = absurd cc

-- ---- fields

displaced_spells : (r rm n : ℕ) → n < 2 ^ 16 → (mode : ℕ) × (d : List ℕ) ×
    (with_displacement r rm n ≡ (64 * mode + 8 * r + rm) ∷ d)
    × (((mode ≡ 1) × (k : ℕ) × (k < 2 ^ 8) × (n ≡ sign_extended k) × (d ≡ k ∷ [])) ⊎ ((mode ≡ 2) × (d ≡ word_bytes n)))
displaced_spells r rm n lt =
    let e1 : 64 + (8 * r + rm) ≡ 64 * 1 + 8 * r + rm = omega arith in
    let e2 : 128 + (8 * r + rm) ≡ 64 * 2 + 8 * r + rm = omega arith in
    elim (eqb_tells (sign_extended (n % 256)) n) [
      | inl t ↦ (
        1,
        n % 256 ∷ [],
        rw t.0 (ap (λ (k : ℕ). k ∷ n % 256 ∷ []) e1),
        inl (
          refl,
          n % 256,
          omega arith,
          sym t.1,
          refl,
        ),
      )
      | inr f ↦ (2, word_bytes n, rw f.0 (ap (λ (k : ℕ). k ∷ word_bytes n) e2), inr (refl, refl))
    ]

abbrev with_memory : ℕ → ℕ → Address → Fields
with_memory r rm a = record { register = r; rm = rm; memory = Some a }

displaced_fields : (r rm n : ℕ) → r < 8 → rm < 8 → n < 2 ^ 16 →
    SpellsFields (with_memory r rm (based rm n)) (with_displacement r rm n)
displaced_fields r rm n rlt rmlt lt =
    let h = displaced_spells r rm n lt in
    elim h.3 [
      | inl s ↦ record {
        mode = h.0;
        displacement = h.1;
        register_fits = rlt;
        rm_fits = rmlt;
        parts = h.2;
        spells_memory = inr (inr (inl (s.0, s.1, s.2, ap (λ (k : ℕ). Some (based rm k)) s.3, s.4)));
      }
      | inr s ↦ record {
        mode = h.0;
        displacement = h.1;
        register_fits = rlt;
        rm_fits = rmlt;
        parts = h.2;
        spells_memory = inr (inr (inr (inl (s.0, n, lt, refl, s.1))));
      }
    ]

based_fields : (r rm n : ℕ) → r < 8 → rm < 8 → n < 2 ^ 16 → SpellsFields (with_memory r rm (based rm n))
    (memory_bytes r (based rm n))
based_fields r rm n rlt rmlt lt =
    let b = base_at rm rmlt in
    let e0 : 8 * r + rm ≡ 64 * 0 + 8 * r + rm = omega arith in
    rw (b.1, b.0) (elim (eqb_tells rm 6) [
      | inl t ↦ rw t.0 (subst (λ k. SpellsFields (with_memory r rm (based rm n)) (with_displacement r k n)) t.1
          (displaced_fields r rm n rlt rmlt lt))
      | inr f ↦ rw f.0 (elim (eqb_tells n 0) [
        | inl z ↦ rw z.0 (record {
          mode = 0;
          displacement = [];
          register_fits = rlt;
          rm_fits = rmlt;
          parts = ap (λ (k : ℕ). k ∷ []) e0;
          spells_memory = inr (inl (
            refl,
            f.1,
            ap (λ (k : ℕ). Some (based rm k)) z.1,
            refl,
          ));
        })
        | inr g ↦ rw g.0 (displaced_fields r rm n rlt rmlt lt)
      ])
    ])

abbrev at_base : Base → ℕ → Address
at_base b n = record { base = b; displacement = n }

address_fields : (r : ℕ) (b : Base) (n : ℕ) → r < 8 → n < 2 ^ 16 →
    SpellsFields (with_memory r (rm_of b) (at_base b n)) (memory_bytes r (at_base b n))
address_fields r Direct n rlt lt =
    let e : 8 * r + 6 ≡ 64 * 0 + 8 * r + 6 = omega arith in
    record {
      mode = 0;
      displacement = word_bytes n;
      register_fits = rlt;
      rm_fits = omega arith;
      parts = ap (λ (k : ℕ). k ∷ word_bytes n) e;
      spells_memory = inl (refl, refl, n, lt, refl, refl);
    }
address_fields r BxSi n rlt lt = based_fields r 0 n rlt (omega arith) lt
address_fields r BxDi n rlt lt = based_fields r 1 n rlt (omega arith) lt
address_fields r BpSi n rlt lt = based_fields r 2 n rlt (omega arith) lt
address_fields r BpDi n rlt lt = based_fields r 3 n rlt (omega arith) lt
address_fields r OnSi n rlt lt = based_fields r 4 n rlt (omega arith) lt
address_fields r OnDi n rlt lt = based_fields r 5 n rlt (omega arith) lt
address_fields r OnBp n rlt lt = based_fields r 6 n rlt (omega arith) lt
address_fields r OnBx n rlt lt = based_fields r 7 n rlt (omega arith) lt

abbrev pub fields_from : ℕ → RegisterOrMemory → Fields
fields_from r (place.Register n) = record { register = r; rm = n; memory = None }
fields_from r (place.Memory a) = with_memory r (rm_of a.base) a

abbrev pub PlaceIs : RegisterOrMemory → Type 0
PlaceIs (place.Register n) = n < 8
PlaceIs (place.Memory a) = a.displacement < 2 ^ 16

pub fields_spell : (r : ℕ) (p : RegisterOrMemory) → r < 8 → PlaceIs p →
    SpellsFields (fields_from r p) (fields_bytes r p)
unfolding fields_bytes
fields_spell r (place.Register n) rlt h =
    let e : 192 + (8 * r + n) ≡ 64 * 3 + 8 * r + n = omega arith in
    record {
      mode = 3;
      displacement = [];
      register_fits = rlt;
      rm_fits = h;
      parts = ap (λ (k : ℕ). k ∷ []) e;
      spells_memory = inr (inr (inr (inr (refl, refl, refl))));
    }
fields_spell r (place.Memory a) rlt h = address_fields r a.base a.displacement rlt h

pub named_from : (r : ℕ) (p : RegisterOrMemory) → (named_place (fields_from r p).rm (fields_from r p).memory ≡ p) ×
    ((fields_from r p).register ≡ r)
named_from r (place.Register n) = (refl, refl)
named_from r (place.Memory a) = (refl, refl)

-- ---- the shape of a demand

byte_below : (r : ByteRegister) → byte_register_number r < 8
byte_below Al = omega arith
byte_below Cl = omega arith
byte_below Dl = omega arith
byte_below Bl = omega arith
byte_below Ah = omega arith
byte_below Ch = omega arith
byte_below Dh = omega arith
byte_below Bh = omega arith

word_below : (r : WordRegister) → word_number r < 8
word_below Ax = omega arith
word_below Cx = omega arith
word_below Dx = omega arith
word_below Bx = omega arith
word_below Sp = omega arith
word_below Bp = omega arith
word_below Si = omega arith
word_below Di = omega arith

pub record Shaped (k : OperandKind) (e : Demand) : Type 0 where
  pub number : ℕ
  pub number_fits : number < 8
  pub at : RegisterOrMemory
  pub at_fits : PlaceIs at
  pub register : e.register ≡ asked (asks_for_register k) number
  pub place : e.place ≡ asked (asks_for_place k) at

module _ (e : Demand) where
  by_data : (k : OperandKind) (x : Demand) → x ≡ e → x.register ≡ asked (asks_for_register k) 0 →
      x.place ≡ asked (asks_for_place k) (place.Register 0) → Shaped k e
  by_data k x h r p = subst (λ y. Shaped k y) h (record {
    number = 0;
    number_fits = omega arith;
    at = place.Register 0;
    at_fits = omega arith;
    register = r;
    place = p;
  })

  by_number : (k : OperandKind) (n : ℕ) → n < 8 → asks_register n ≡ e → asks_for_register k ≡ true →
      asks_for_place k ≡ false → Shaped k e
  by_number k n lt h a b = subst (λ y. Shaped k y) h (record {
    number = n;
    number_fits = lt;
    at = place.Register 0;
    at_fits = omega arith;
    register = rw a refl;
    place = rw b refl;
  })

  by_place : (k : OperandKind) (q : RegisterOrMemory) → PlaceIs q → asks_place q ≡ e → asks_for_register k ≡ false →
      asks_for_place k ≡ true → Shaped k e
  by_place k q fits h a b = subst (λ y. Shaped k y) h (record {
    number = 0;
    number_fits = omega arith;
    at = q;
    at_fits = fits;
    register = rw a refl;
    place = rw b refl;
  })

  pub demand_shape : (k : OperandKind) (o : Operand) → OperandFits o → demand_of k o ≡ Some e → Shaped k e
  unfolding demand_of
  demand_shape is.Nothing operand.Nothing f h = by_data is.Nothing _ (is_some (asks_data data_is.Nothing) e h) refl refl
  demand_shape is.Nothing _ f h = absurd cc
  demand_shape (is.RegisterOrMemory w) (operand.Memory v a) f h = let c =
      chosen_true (same_width w v) (asks_place (place.Memory a)) e h in
      by_place (is.RegisterOrMemory w) (place.Memory a) f c.1 refl refl
  demand_shape (is.RegisterOrMemory Byte) (operand.ByteRegister s) f h =
      by_place (is.RegisterOrMemory Byte) (place.Register (byte_register_number s)) (byte_below s)
      (is_some (asks_place (place.Register (byte_register_number s))) e h) refl refl
  demand_shape (is.RegisterOrMemory Word) (operand.WordRegister s) f h =
      by_place (is.RegisterOrMemory Word) (place.Register (word_number s)) (word_below s)
      (is_some (asks_place (place.Register (word_number s))) e h) refl refl
  demand_shape (is.RegisterOrMemory Byte) _ f h = absurd cc
  demand_shape (is.RegisterOrMemory Word) _ f h = absurd cc
  demand_shape (is.Register Byte) (operand.ByteRegister s) f h =
      by_number (is.Register Byte) (byte_register_number s) (byte_below s)
      (is_some (asks_register (byte_register_number s)) e h) refl refl
  demand_shape (is.Register Word) (operand.WordRegister s) f h =
      by_number (is.Register Word) (word_number s) (word_below s) (is_some (asks_register (word_number s)) e h) refl
      refl
  demand_shape (is.Register Byte) _ f h = absurd cc
  demand_shape (is.Register Word) _ f h = absurd cc
  demand_shape is.Memory (operand.Memory v a) f h = let c =
      chosen_true (same_width Word v) (asks_place (place.Memory a)) e h in
      by_place is.Memory (place.Memory a) f c.1 refl refl
  demand_shape is.Memory _ f h = absurd cc
  demand_shape is.ByteValue (operand.ByteValue n) f h =
      by_data is.ByteValue _ (is_some (asks_data (data_is.Byte n)) e h) refl refl
  demand_shape is.ByteValue _ f h = absurd cc
  demand_shape is.WordValue (operand.WordValue n) f h =
      by_data is.WordValue _ (is_some (asks_data (data_is.Word n)) e h) refl refl
  demand_shape is.WordValue _ f h = absurd cc
  demand_shape is.SignedValue (operand.WordValue n) f h = let c =
      chosen_true (eqb (sign_extended (n % 256)) n) (asks_data (data_is.Byte (n % 256))) e h in
      by_data is.SignedValue _ c.1 refl refl
  demand_shape is.SignedValue _ f h = absurd cc
  demand_shape is.Short (operand.Target n) f h = let c =
      chosen_true (eqb (sign_extended (n % 256)) n) (asks_data (data_is.Byte (n % 256))) e h in
      by_data is.Short _ c.1 refl refl
  demand_shape is.Short _ f h = absurd cc
  demand_shape is.Near (operand.Target n) f h = by_data is.Near _ (is_some (asks_data (data_is.Word n)) e h) refl refl
  demand_shape is.Near _ f h = absurd cc
  demand_shape (is.Direct w) (operand.Memory v a) f h =
      let c = chosen_some (same_width w v) (cond (is_direct a.base) (Some (asks_data (data_is.Word a.displacement)))
      None) e h in
      let d = chosen_true (is_direct a.base) (asks_data (data_is.Word a.displacement)) e c in
      by_data (is.Direct w) _ d.1 refl refl
  demand_shape (is.Direct w) _ f h = absurd cc
  demand_shape is.Far (operand.FarTarget n s) f h =
      by_data is.Far _ (is_some (asks_data (data_is.Words n s)) e h) refl refl
  demand_shape is.Far _ f h = absurd cc
  demand_shape (is.Escape k) (operand.ByteValue n) f h = let c =
      chosen_true (eqb (n / 8) (k % 8)) (asks_register (n % 8)) e h in
      by_number (is.Escape k) (n % 8) (omega arith) c.1 refl refl
  demand_shape (is.Escape k) _ f h = absurd cc
  demand_shape (is.Byte k) (operand.ByteRegister s) f h = let c =
      chosen_true (eqb (byte_register_number k) (byte_register_number s)) (asks_data data_is.Nothing) e h in
      by_data (is.Byte k) _ c.1 refl refl
  demand_shape (is.Byte k) _ f h = absurd cc
  demand_shape (is.Word k) (operand.WordRegister s) f h = let c =
      chosen_true (eqb (word_number k) (word_number s)) (asks_data data_is.Nothing) e h in
      by_data (is.Word k) _ c.1 refl refl
  demand_shape (is.Word k) _ f h = absurd cc
  demand_shape (is.TheSegment k) (operand.SegmentRegister s) f h = let c =
      chosen_true (eqb (segment_number k) (segment_number s)) (asks_data data_is.Nothing) e h in
      by_data (is.TheSegment k) _ c.1 refl refl
  demand_shape (is.TheSegment k) _ f h = absurd cc
  demand_shape is.One operand.One f h = by_data is.One _ (is_some (asks_data data_is.Nothing) e h) refl refl
  demand_shape is.One _ f h = absurd cc
