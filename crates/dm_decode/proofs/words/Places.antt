-- A direct address with another displacement in its place: the mod r/m byte keeps its length.
use Rattle.std.proofs.Common.{◌≡◌, ℕ, ◌+◌, ◌*◌, ◌<◌, ◌^◌, Bool, true, false, List, [], ◌∷◌, length, get_or, Option, Some, None, refl, sym, ap, subst, ◌∙◌, arith, inl, inr}
use Rattle.std.specs.Prelude.{◌⊎◌}
use Rattle.dm_ins.specs.declared.operand.Width.{Width}
use Rattle.dm_ins.specs.declared.operand.Base.{Base}
use Rattle.dm_ins.specs.declared.operand.Base.TheVariants.{Direct, BxSi}
use Rattle.dm_ins.specs.declared.operand.Address.{Address}
use Rattle.dm_ins.specs.declared.operand.Operand.{Operand}
use Rattle.dm_ins.specs.declared.action.Mnemonic.{Mnemonic}
use Rattle.dm_ins.specs.declared.fields.Fields.{Fields}
use Rattle.dm_ins.specs.declared.table.OperandKind.{OperandKind}
use Rattle.dm_ins.specs.declared.table.OperandKind.TheVariants as is
use Rattle.dm_ins.specs.declared.table.Template.{Template}
use Rattle.dm_ins.specs.declared.table.OpcodeEntry.{OpcodeEntry}
use Rattle.dm_ins.specs.declared.table.OpcodeEntry.TheVariants.{Unlisted, Plain, Group, Second}
use Rattle.dm_ins.specs.Registers.{bases}
use Rattle.dm_ins.specs.Spelling.{word_bytes, direct, based, at_place, Fills, SpellsMemory, SpellsFields, HasTemplate, MaySpellFields, has_fields, no_fields}
use Rattle.dm_ins.specs.inner.Search.{OperandFits}
use Rattle.dm_ins.proofs.TableRules.{passes}
use Rattle.dm_decode.specs.words.StandIns.{has_no_base}
use Rattle.dm_decode.proofs.words.Known.{opposite}
use Rattle.dm_decode.proofs.words.Alike.{Alike, SameBase, same_address, direct_is, register_alike, uses_memory}

-- the fields name a direct address, and then another one
pub record MovedFields (f g : Fields) : Type 0 where
  pub old : ℕ
  pub new : ℕ
  pub was : f.memory ≡ Some (direct old)
  pub fits : new < 2 ^ 16
  pub now : g ≡ record f { memory = Some (direct new) }

-- the fields are the same but for a direct address
abbrev pub Moved : Fields → Fields → Type 0
Moved f g = (g ≡ f) ⊎ MovedFields f g

pub same_register : (f g : Fields) → Moved f g → g.register ≡ f.register
same_register f g (inl e) = rw e refl
same_register f g (inr h) = rw h.now refl

-- ---- the bytes between the first one and the operands'

-- no r/m field names a direct address
based_has_base : (rm : ℕ) → opposite (has_no_base (get_or bases rm BxSi)) ≡ true
unfolding opposite
based_has_base rm = passes (λ (b : Base). opposite (has_no_base b)) BxSi refl bases rm refl

direct_has_none : (b : Base) → Direct ≡ b → opposite (has_no_base b) ≡ true → ⊥
unfolding opposite
direct_has_none b e h = differ (subst (λ (x : Base). opposite (has_no_base x) ≡ true) (sym e) h)
  where
    differ : false ≡ true → ⊥
    differ e = cc

base_of : Option Address → Base
base_of None = BxSi
base_of (Some a) = a.base

based_is_not_direct : {P : Type 0} (n rm k : ℕ) → Some (direct n) ≡ Some (based rm k) → P
unfolding base_of
based_is_not_direct n rm k e = absurd (direct_has_none (get_or bases rm BxSi) (ap base_of e) (based_has_base rm))

direct_spelled : (n j mode rm : ℕ) (d : List ℕ) → j < 2 ^ 16 → SpellsMemory (Some (direct n)) mode rm d →
    SpellsMemory (Some (direct j)) mode rm (word_bytes j) × (length (word_bytes j) ≡ length d)
direct_spelled n j mode rm d lt (inl h) = (inl (h.0, h.1, j, lt, refl, refl), ap length (sym h.5))
direct_spelled n j mode rm d lt (inr (inl h)) = based_is_not_direct n rm 0 h.2
direct_spelled n j mode rm d lt (inr (inr (inl h))) = based_is_not_direct n rm _ h.3
direct_spelled n j mode rm d lt (inr (inr (inr (inl h)))) = based_is_not_direct n rm h.1 h.3
direct_spelled n j mode rm d lt (inr (inr (inr (inr h)))) = absurd cc

abbrev AsLong : (List ℕ → Type 0) → List ℕ → Type 0
AsLong P d = (e : List ℕ) × P e × (length e ≡ length d)

fields_moved : (f g : Fields) (d : List ℕ) → MovedFields f g → SpellsFields f d → AsLong (SpellsFields g) d
fields_moved f g d h s =
    let m = direct_spelled h.old h.new s.mode f.rm s.displacement h.fits (rw h.was at s.spells_memory) in
    rw h.now (
      (64 * s.mode + 8 * f.register + f.rm) ∷ word_bytes h.new,
      record {
        mode = s.mode;
        displacement = word_bytes h.new;
        register_fits = s.register_fits;
        rm_fits = s.rm_fits;
        spells_memory = m.0;
        parts = refl;
      },
      rw s.parts (omega (arith, m.1)),
    )

none_is_no_memory : (n : ℕ) → Some (direct n) ≡ None → ⊥
none_is_no_memory n e = cc

no_memory : {P : Type 0} (f g : Fields) → MovedFields f g → f ≡ no_fields → P
no_memory f g h e = absurd (none_is_no_memory h.old (sym h.was ∙ ap (λ (x : Fields). x.memory) e))

may_move : (b : Bool) (f g : Fields) (d : List ℕ) → MovedFields f g → MaySpellFields b f d →
    AsLong (MaySpellFields b g) d
may_move true f g d h s = fields_moved f g d h s
may_move false f g d h s = no_memory f g h s.0

template_moved : (en : OpcodeEntry) (f g : Fields) (d : List ℕ) (r : Template) → MovedFields f g →
    HasTemplate en f d r → AsLong (λ (e : List ℕ). HasTemplate en g e r) d
template_moved Unlisted f g d r h s = absurd s
template_moved (Plain p) f g d r h s = let m = may_move (has_fields p) f g d h s.1 in (m.0, (s.0, m.1), m.2)
template_moved (Group n) f g d r h s = let m = fields_moved f g d h s.1 in
    (m.0, (rw (same_register f g (inr h)) s.0, m.1), m.2)
template_moved (Second c p) f g d r h s = no_memory f g h s.1

pub still_template : (en : OpcodeEntry) (f g : Fields) (d : List ℕ) (r : Template) → Moved f g → HasTemplate en f d r →
    AsLong (λ (e : List ℕ). HasTemplate en g e r) d
still_template en f g d r (inl e) s = (d, rw e s, refl)
still_template en f g d r (inr h) s = template_moved en f g d r h s

-- ---- the operand that the mod r/m byte places in memory

-- fields that name the address b
pub record Names (f : Fields) (b : Address) : Type 0 where
  pub g : Fields
  pub moved : Moved f g
  pub named : g.memory ≡ Some b

named_by : (f : Fields) (a b : Address) → f.memory ≡ Some a → SameBase a b → b.displacement < 2 ^ 16 → Names f b
named_by f a b e h lt = by (has_no_base a.base) refl
  where
    by : (n : Bool) → has_no_base a.base ≡ n → Names f b
    by false n = record { g = f; moved = inl refl; named = e ∙ ap Some (sym (same_address a b h n)) }
    by true n =
        let d : b ≡ direct b.displacement = direct_is b (ap has_no_base h.base ∙ n) in
        record {
          g = record f { memory = Some (direct b.displacement) };
          moved = inr (record {
            old = a.displacement;
            new = b.displacement;
            was = e ∙ ap Some (direct_is a n);
            fits = lt;
            now = refl;
          });
          named = ap Some (sym d);
        }

pub record Placed (k : OperandKind) (f : Fields) (p : Operand) (d : List ℕ) : Type 0 where
  pub g : Fields
  pub moved : Moved f g
  pub fills : Fills k g p d

at_place_placed : (m : Mnemonic) (v : Width) (f : Fields) (o p : Operand) (a : Option Address) → f.memory ≡ a →
    o ≡ at_place v f.rm a → Alike m o p → OperandFits p → Placed (is.RegisterOrMemory v) f p []
unfolding Alike
at_place_placed m v f o p None e h al fit = record {
  g = f;
  moved = inl refl;
  fills = (rw e (register_alike m v f.rm p (rw h at al)), refl);
}
at_place_placed m v f o p (Some a) e h al fit =
    let k = rw h at al in
    let n = named_by f a k.0 e k.2 (rw k.1 at fit) in
    record { g = n.g; moved = n.moved; fills = (rw n.named k.1, refl) }

pub placed : (m : Mnemonic) (k : OperandKind) (f : Fields) (o p : Operand) (d : List ℕ) → uses_memory k ≡ true →
    Alike m o p → OperandFits p → Fills k f o d → Placed k f p d
unfolding Alike uses_memory
placed m (is.RegisterOrMemory v) f o p d u al fit h = rw h.1 (at_place_placed m v f o p f.memory refl h.0 al fit)
placed m is.Memory f o p d u al fit h =
    let k = rw h.2 at al in
    let n = named_by f h.0 k.0 h.1 k.2 (rw k.1 at fit) in
    record { g = n.g; moved = n.moved; fills = (k.0, n.named, k.1, h.3) }
placed m _ f o p d u al fit h = absurd cc
