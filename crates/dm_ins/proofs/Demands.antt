-- What operands ask of the bytes is what fills a template.
use Rattle.std.proofs.Common.{◌≡◌, ℕ, zero, suc, ◌+◌, ◌*◌, ◌/◌, ◌%◌, ◌^◌, ◌<◌, Bool, true, false, List, [], ◌∷◌, length, get_or, Option, Some, None, refl, sym, ap, subst, ◌∙◌, arith, inl, inr, eq-eqb, nat_lt}
use Rattle.std.specs.Prelude.{◌⊎◌, cond}
use Rattle.std.proofs.lemmas.Bool.{ne_eqb}
use Rattle.std.proofs.lemmas.Bool.Decides.{eqb_tells}
use Rattle.dm_ins.specs.declared.operand.Width.{Width}
use Rattle.dm_ins.specs.declared.operand.Width.TheVariants.{Byte, Word}
use Rattle.dm_ins.specs.declared.operand.WordRegister.TheVariants.{Ax}
use Rattle.dm_ins.specs.declared.operand.ByteRegister.TheVariants.{Al}
use Rattle.dm_ins.specs.declared.operand.Base.TheVariants.{BxSi}
use Rattle.dm_ins.specs.declared.operand.Address.{Address}
use Rattle.dm_ins.specs.declared.fields.Fields.{Fields}
use Rattle.dm_ins.specs.declared.operand.Operand.{Operand}
use Rattle.dm_ins.specs.declared.demand.RegisterOrMemory.{RegisterOrMemory}
use Rattle.dm_ins.specs.declared.demand.RegisterOrMemory.TheVariants as place
use Rattle.dm_ins.specs.declared.demand.Data.TheVariants as data_is
use Rattle.dm_ins.specs.declared.demand.Demand.{Demand}
use Rattle.dm_ins.specs.declared.table.OperandKind.{OperandKind}
use Rattle.dm_ins.specs.declared.table.OperandKind.TheVariants as is
use Rattle.dm_ins.specs.Registers.{word_registers, byte_registers, bases, word_number, byte_register_number, segment_number}
use Rattle.dm_ins.specs.Spelling.{word_bytes, sign_extended, based, register, at_place, SpellsMemory, SpellsFields, Fills}
use Rattle.dm_ins.specs.inner.Search.{rm_of, is_direct, same_width, numbered, asks_data, asks_register, asks_place, as_signed, demand_of, data_bytes, with_displacement, memory_bytes, fields_bytes}

abbrev pub asks_for_register : OperandKind → Bool
asks_for_register (is.Register w) = true
asks_for_register (is.Escape r) = true
asks_for_register _ = false

abbrev pub asks_for_place : OperandKind → Bool
asks_for_place (is.RegisterOrMemory w) = true
asks_for_place is.Memory = true
asks_for_place _ = false

abbrev pub asked : {A : Type 0} → Bool → A → Option A
asked true x = Some x
asked false x = None

abbrev pub named_place : ℕ → Option Address → RegisterOrMemory
named_place n None = place.Register n
named_place n (Some a) = place.Memory a

-- ---- numbers of registers

past_eight : (n : ℕ) → suc (suc (suc (suc (suc (suc (suc (suc n))))))) < 8 → ⊥
past_eight n h = omega arith

byte_number_at : (n : ℕ) → n < 8 → byte_register_number (get_or byte_registers n Al) ≡ n
byte_number_at zero h = refl
byte_number_at (suc zero) h = refl
byte_number_at (suc (suc zero)) h = refl
byte_number_at (suc (suc (suc zero))) h = refl
byte_number_at (suc (suc (suc (suc zero)))) h = refl
byte_number_at (suc (suc (suc (suc (suc zero))))) h = refl
byte_number_at (suc (suc (suc (suc (suc (suc zero)))))) h = refl
byte_number_at (suc (suc (suc (suc (suc (suc (suc zero))))))) h = refl
byte_number_at (suc (suc (suc (suc (suc (suc (suc (suc n)))))))) h = absurd (past_eight n h)

word_number_at : (n : ℕ) → n < 8 → word_number (get_or word_registers n Ax) ≡ n
word_number_at zero h = refl
word_number_at (suc zero) h = refl
word_number_at (suc (suc zero)) h = refl
word_number_at (suc (suc (suc zero))) h = refl
word_number_at (suc (suc (suc (suc zero)))) h = refl
word_number_at (suc (suc (suc (suc (suc zero))))) h = refl
word_number_at (suc (suc (suc (suc (suc (suc zero)))))) h = refl
word_number_at (suc (suc (suc (suc (suc (suc (suc zero))))))) h = refl
word_number_at (suc (suc (suc (suc (suc (suc (suc (suc n)))))))) h = absurd (past_eight n h)

pub base_at : (n : ℕ) → n < 8 → (rm_of (get_or bases n BxSi) ≡ n) × (is_direct (get_or bases n BxSi) ≡ false)
base_at zero h = (refl, refl)
base_at (suc zero) h = (refl, refl)
base_at (suc (suc zero)) h = (refl, refl)
base_at (suc (suc (suc zero))) h = (refl, refl)
base_at (suc (suc (suc (suc zero)))) h = (refl, refl)
base_at (suc (suc (suc (suc (suc zero))))) h = (refl, refl)
base_at (suc (suc (suc (suc (suc (suc zero)))))) h = (refl, refl)
base_at (suc (suc (suc (suc (suc (suc (suc zero))))))) h = (refl, refl)
base_at (suc (suc (suc (suc (suc (suc (suc (suc n)))))))) h = absurd (past_eight n h)

numbered_at : (w : Width) (n : ℕ) → n < 8 → numbered w (register w n) ≡ Some n
numbered_at Byte n h = ap Some (byte_number_at n h)
numbered_at Word n h = ap Some (word_number_at n h)

same_itself : (w : Width) → same_width w w ≡ true
same_itself Byte = refl
same_itself Word = refl

extended_low : (n : ℕ) → n < 2 ^ 8 → sign_extended n % 256 ≡ n
extended_low n h = elim (cases_high n) [ inl e ↦ rw e (omega arith) | inr e ↦ rw e (omega arith) ]
  where
    cases_high : (n : ℕ) → (sign_extended n ≡ n) ⊎ (sign_extended n ≡ n + 65280)
    cases_high n = elim (nat_lt n 128) as (λ b. (cond b n (n + 65280) ≡ n) ⊎
        (cond b n (n + 65280) ≡ n + 65280)) [ true ↦ inl refl | false ↦ inr refl ]

-- ---- what fills a template asks for the template's bytes

pub record Asked (k : OperandKind) (m : Fields) (o : Operand) (d : List ℕ) : Type 0 where
  pub demand : Demand
  pub is_demand : demand_of k o ≡ Some demand
  pub register : demand.register ≡ asked (asks_for_register k) m.register
  pub place : demand.place ≡ asked (asks_for_place k) (named_place m.rm m.memory)
  pub tail : data_bytes demand.tail ≡ d

signed_at : (n : ℕ) → n < 2 ^ 8 → as_signed (sign_extended n) ≡ Some (asks_data (data_is.Byte n))
signed_at n h = rw (extended_low n h) (rw (eq-eqb (sign_extended n) (sign_extended n) refl) refl)

module _ (m : Fields) (register_fits : m.register < 8) (rm_fits : m.rm < 8) where
  place_asked : (w : Width) (a : Option Address) (o : Operand) → o ≡ at_place w m.rm a →
      demand_of (is.RegisterOrMemory w) o ≡ Some (asks_place (named_place m.rm a))
  unfolding demand_of
  place_asked Byte None o e = rw (e, byte_number_at m.rm rm_fits) refl
  place_asked Word None o e = rw (e, word_number_at m.rm rm_fits) refl
  place_asked w (Some a) o e = rw (e, same_itself w) refl

  pub operand_asks : (k : OperandKind) (o : Operand) (d : List ℕ) → Fills k m o d → Asked k m o d
  unfolding demand_of
  operand_asks is.Nothing o d h = record {
    demand = asks_data data_is.Nothing;
    is_demand = rw h.0 refl;
    register = refl;
    place = refl;
    tail = sym h.1;
  }
  operand_asks (is.RegisterOrMemory w) o d h = record {
    demand = asks_place (named_place m.rm m.memory);
    is_demand = place_asked w m.memory o h.0;
    register = refl;
    place = refl;
    tail = sym h.1;
  }
  operand_asks (is.Register w) o d h = record {
    demand = asks_register m.register;
    is_demand = rw (h.0, numbered_at w m.register register_fits) refl;
    register = refl;
    place = refl;
    tail = sym h.1;
  }
  operand_asks is.Memory o d h = record {
    demand = asks_place (place.Memory h.0);
    is_demand = rw h.2 refl;
    register = refl;
    place = rw h.1 refl;
    tail = sym h.3;
  }
  operand_asks is.ByteValue o d h = record {
    demand = asks_data (data_is.Byte h.0);
    is_demand = rw h.2 refl;
    register = refl;
    place = refl;
    tail = sym h.3;
  }
  operand_asks is.WordValue o d h = record {
    demand = asks_data (data_is.Word h.0);
    is_demand = rw h.2 refl;
    register = refl;
    place = refl;
    tail = sym h.3;
  }
  operand_asks is.SignedValue o d h = record {
    demand = asks_data (data_is.Byte h.0);
    is_demand = rw h.2 (signed_at h.0 h.1);
    register = refl;
    place = refl;
    tail = sym h.3;
  }
  operand_asks is.Short o d h = record {
    demand = asks_data (data_is.Byte h.0);
    is_demand = rw h.2 (signed_at h.0 h.1);
    register = refl;
    place = refl;
    tail = sym h.3;
  }
  operand_asks is.Near o d h = record {
    demand = asks_data (data_is.Word h.0);
    is_demand = rw h.2 refl;
    register = refl;
    place = refl;
    tail = sym h.3;
  }
  operand_asks (is.Direct w) o d h = record {
    demand = asks_data (data_is.Word h.0);
    is_demand = rw h.2 (rw (same_itself w) refl);
    register = refl;
    place = refl;
    tail = sym h.3;
  }
  operand_asks is.Far o d h = record {
    demand = asks_data (data_is.Words h.0 h.1);
    is_demand = rw h.4 refl;
    register = refl;
    place = refl;
    tail = sym h.5;
  }
  operand_asks (is.Escape r) o d h =
      let high : (8 * (r % 8) + m.register) / 8 ≡ r % 8 = omega arith in
      let low : (8 * (r % 8) + m.register) % 8 ≡ m.register = omega arith in
      record {
        demand = asks_register m.register;
        is_demand = rw h.0 (rw (
          high,
          low,
        ) (rw (eq-eqb (r % 8) (r % 8) refl) refl));
        register = refl;
        place = refl;
        tail = sym h.1;
      }
  operand_asks (is.Byte r) o d h = record {
    demand = asks_data data_is.Nothing;
    is_demand = rw h.0 (rw (eq-eqb (byte_register_number r) (byte_register_number r) refl) refl);
    register = refl;
    place = refl;
    tail = sym h.1;
  }
  operand_asks (is.Word r) o d h = record {
    demand = asks_data data_is.Nothing;
    is_demand = rw h.0 (rw (eq-eqb (word_number r) (word_number r) refl) refl);
    register = refl;
    place = refl;
    tail = sym h.1;
  }
  operand_asks (is.TheSegment r) o d h = record {
    demand = asks_data data_is.Nothing;
    is_demand = rw h.0 (rw (eq-eqb (segment_number r) (segment_number r) refl) refl);
    register = refl;
    place = refl;
    tail = sym h.1;
  }
  operand_asks is.One o d h = record {
    demand = asks_data data_is.Nothing;
    is_demand = rw h.0 refl;
    register = refl;
    place = refl;
    tail = sym h.1;
  }

-- ---- the shortest fields

-- the same, or shorter
abbrev pub AtMost : List ℕ → List ℕ → Type 0
AtMost c d = (c ≡ d) ⊎ (length c < length d)

displaced_byte : (r rm n : ℕ) → n < 2 ^ 8 → with_displacement r rm (sign_extended n) ≡ (64 + (8 * r + rm)) ∷ n ∷ []
displaced_byte r rm n h = rw (extended_low n h) (rw (eq-eqb (sign_extended n) (sign_extended n) refl) refl)

displaced_word : (r rm n : ℕ) → AtMost (with_displacement r rm n) ((128 + (8 * r + rm)) ∷ word_bytes n)
displaced_word r rm n = elim (eqb_tells (sign_extended (n % 256)) n) [
  | inl t ↦ rw t.0 (inr (omega arith))
  | inr f ↦
      rw f.0 (inl refl)
]

-- behind a base with the number rm
base_least : (r rm n : ℕ) (d : List ℕ) → rm < 8 → 1 < length d → AtMost (with_displacement r rm n) d →
    AtMost (memory_bytes r (based rm n)) d
base_least r rm n d lt long h =
    let b = base_at rm lt in
    rw (b.1, b.0) (elim (eqb_tells rm 6) [
      | inl t ↦ rw t.0 (let P : ℕ → Type 0 = λ k. AtMost (with_displacement r k n) d in subst P t.1 h)
      | inr f ↦ rw f.0 (elim (eqb_tells n 0) [ inl t ↦ rw t.0 (inr long) | inr f ↦ rw f.0 h ])
    ])

memory_least : (r rm mode : ℕ) (a : Option Address) (d : List ℕ) → rm < 8 → SpellsMemory a mode rm d →
    AtMost (fields_bytes r (named_place rm a)) ((64 * mode + 8 * r + rm) ∷ d)
unfolding fields_bytes
memory_least r rm mode a d lt (inl h) =
    let e : 8 * r + 6 ≡ 64 * mode + 8 * r + rm = omega (arith, h.0, h.1) in
    rw (h.4, h.5) (inl (ap (λ (k : ℕ). k ∷ word_bytes h.2) e))
memory_least r rm mode a d lt (inr (inl h)) =
    let e : 8 * r + rm ≡ 64 * mode + 8 * r + rm = omega (arith, h.0) in
    let b = base_at rm lt in
    rw (h.2, h.3) (inl (rw (b.1, b.0) (rw (ne_eqb rm 6 h.1) (ap (λ (k : ℕ). k ∷ []) e))))
memory_least r rm mode a d lt (inr (inr (inl h))) =
    let e : 64 + (8 * r + rm) ≡ 64 * mode + 8 * r + rm = omega (arith, h.0) in
    rw (h.3, h.4) (base_least r rm (sign_extended h.1) _ lt (omega arith) (inl (displaced_byte r rm h.1 h.2
    ∙ ap (λ (k : ℕ). k ∷ h.1 ∷ []) e)))
memory_least r rm mode a d lt (inr (inr (inr (inl h)))) =
    let e : 64 * mode + 8 * r + rm ≡ 128 + (8 * r + rm) = omega (arith, h.0) in
    rw (h.3, h.4, e) (base_least r rm h.1 _ lt (omega arith) (displaced_word r rm h.1))
memory_least r rm mode a d lt (inr (inr (inr (inr h)))) =
    let e : 192 + (8 * r + rm) ≡ 64 * mode + 8 * r + rm = omega (arith, h.0) in
    rw (h.1, h.2) (inl (ap (λ (k : ℕ). k ∷ []) e))

pub fields_least : (m : Fields) (d : List ℕ) → SpellsFields m d →
    AtMost (fields_bytes m.register (named_place m.rm m.memory)) d
fields_least m d h = rw h.parts (memory_least m.register m.rm h.mode m.memory h.displacement h.rm_fits h.spells_memory)
