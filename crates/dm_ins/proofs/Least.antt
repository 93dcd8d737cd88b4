-- Each spelling has a template's bytes that are the same or fewer.
use Rattle.std.proofs.Common.{◌≡◌, ℕ, ◌<◌, Bool, true, false, List, [], ◌∷◌, ◌++◌, get_or, Option, Some, None, refl, sym, ap, subst, ◌∙◌, arith, inl, inr, ◌&&◌}
use Rattle.std.specs.Prelude.{cond, if◌then◌else◌}
use Rattle.std.specs.List.{list_all}
use Rattle.std.proofs.lemmas.List.{length-append}
use Rattle.dm_ins.specs.declared.fields.Fields.{Fields}
use Rattle.dm_ins.specs.declared.action.Action.{Action}
use Rattle.dm_ins.specs.declared.fill.Choice.{Choice}
use Rattle.dm_ins.specs.declared.table.Template.{Template}
use Rattle.dm_ins.specs.declared.table.OpcodeEntry.{OpcodeEntry}
use Rattle.dm_ins.specs.declared.table.OpcodeEntry.TheVariants.{Unlisted, Plain, Group, Second}
use Rattle.dm_ins.specs.Table.{entries, entry_of, groups, member_of}
use Rattle.dm_ins.specs.Spelling.{has_fields, MaySpellFields, HasTemplate, SpellsAction}
use Rattle.dm_ins.specs.inner.Search.{either, behind_bytes, bytes_of, choice_at}
use Rattle.dm_ins.proofs.TableRules.{passes, both_true}
use Rattle.dm_ins.proofs.Demands.{asks_for_register, asks_for_place, asked, named_place, operand_asks, AtMost, fields_least}

-- ---- rules of the table

abbrev pub exactly_one : Bool → Bool → Bool
exactly_one true b = if b then false else true
exactly_one false b = b

abbrev pub neither : Bool → Bool → Bool
neither true b = false
neither false b = if b then false else true

abbrev pub regular_fields : Template → Bool
regular_fields r = exactly_one (asks_for_register r.first) (asks_for_register r.second) &&
    exactly_one (asks_for_place r.first) (asks_for_place r.second)

abbrev pub no_demand : Template → Bool
no_demand r = neither (asks_for_register r.first) (asks_for_register r.second) &&
    neither (asks_for_place r.first) (asks_for_place r.second)

abbrev pub regular : OpcodeEntry → Bool
regular (Plain p) = cond (has_fields p) (regular_fields p) (no_demand p)
regular (Second c p) = no_demand p
regular _ = true

abbrev pub regular_member : Option Template → Bool
regular_member None = true
regular_member (Some r) = neither (asks_for_register r.first) (asks_for_register r.second) &&
    exactly_one (asks_for_place r.first) (asks_for_place r.second)

pub entry_regular : (b : ℕ) → regular (entry_of b) ≡ true
unfolding entry_of
entry_regular b = passes regular Unlisted refl entries b refl

pub group_regular : (g r : ℕ) → regular_member (member_of g r) ≡ true
unfolding member_of
group_regular g r = passes regular_member None refl (get_or groups g []) r
    (passes (list_all regular_member) [] refl groups g refl)

-- ---- demands of a template

one_of : {A : Type 0} (a b : Bool) (x : A) → exactly_one a b ≡ true → either (asked a x) (asked b x) ≡ Some x
one_of true true x e = absurd cc
one_of true false x e = refl
one_of false true x e = refl
one_of false false x e = absurd cc

none_of : {A : Type 0} (a b : Bool) (x : A) → neither a b ≡ true → either (asked a x) (asked b x) ≡ None
none_of true b x e = absurd cc
none_of false true x e = absurd cc
none_of false false x e = refl

record Chosen (e : OpcodeEntry) (b : ℕ) (m : Fields) (r : Template) (behind : List ℕ) : Type 0 where
  g : ℕ
  choice : Choice
  is_choice : choice_at e b g ≡ Some choice
  is_template : choice.template ≡ r
  is_opcode : choice.opcode ≡ b
  least : AtMost (behind_bytes (either choice.register (either (asked (asks_for_register r.first) m.register)
      (asked (asks_for_register r.second) m.register))) (either (asked (asks_for_place r.first)
      (named_place m.rm m.memory)) (asked (asks_for_place r.second) (named_place m.rm m.memory))) choice.second) behind

plain_chosen : (f : Bool) (p : Template) (b : ℕ) (m : Fields) (behind : List ℕ) →
    cond f (regular_fields p) (no_demand p) ≡ true → MaySpellFields f m behind → Chosen (Plain p) b m p behind
plain_chosen true p b m behind t h =
    let u = both_true _ _ t in
    record {
      g = 0;
      choice = record { opcode = b; template = p; register = None; second = None };
      is_choice = refl;
      is_template = refl;
      is_opcode = refl;
      least = rw (
        one_of (asks_for_register p.first) (asks_for_register p.second) m.register u.0,
        one_of (asks_for_place p.first) (asks_for_place p.second) (named_place m.rm m.memory) u.1,
      )
          (fields_least m behind h);
    }
plain_chosen false p b m behind t h =
    let u = both_true _ _ t in
    record {
      g = 0;
      choice = record { opcode = b; template = p; register = None; second = None };
      is_choice = refl;
      is_template = refl;
      is_opcode = refl;
      least = rw (none_of (asks_for_register p.first) (asks_for_register p.second) m.register u.0) (inl (sym h.1));
    }

chosen : (e : OpcodeEntry) (b : ℕ) (m : Fields) (r : Template) (behind : List ℕ) → regular e ≡ true →
    HasTemplate e m behind r → Chosen e b m r behind
chosen Unlisted b m r behind t h = absurd h
chosen (Plain p) b m r behind t h = subst (λ q. Chosen (Plain p) b m q behind) (sym h.0)
    (plain_chosen (has_fields p) p b m behind t h.1)
chosen (Group g) b m r behind t h =
    let v = both_true _ _ (ap regular_member (sym h.0) ∙ group_regular g m.register) in
    record {
      g = m.register;
      choice = record { opcode = b; template = r; register = Some m.register; second = None };
      is_choice = rw h.0 refl;
      is_template = refl;
      is_opcode = refl;
      least = rw (one_of (asks_for_place r.first) (asks_for_place r.second) (named_place m.rm m.memory) v.1)
          (fields_least m behind h.1);
    }
chosen (Second c p) b m r behind t h =
    let u = both_true _ _ t in
    subst (λ q. Chosen (Second c p) b m q behind) (sym h.0)
    (record {
      g = 0;
      choice = record { opcode = b; template = p; register = None; second = Some c };
      is_choice = refl;
      is_template = refl;
      is_opcode = refl;
      least = rw (none_of (asks_for_register p.first) (asks_for_register p.second) m.register u.0) (inl (sym h.2));
    })

-- ---- actions

at_most_within : (b : ℕ) (x y t : List ℕ) → AtMost x y → AtMost (b ∷ x ++ t) (b ∷ y ++ t)
at_most_within b x y t (inl e) = inl (ap (λ (z : List ℕ). b ∷ z ++ t) e)
at_most_within b x y t (inr lt) = inr (omega (arith, length-append x t, length-append y t))

pub record ActionLeast (a : Action) (bytes : List ℕ) : Type 0 where
  pub b : ℕ
  pub g : ℕ
  pub choice : Choice
  pub is_choice : choice_at (entry_of b) b g ≡ Some choice
  pub mnemonic : choice.template.mnemonic ≡ a.mnemonic
  pub c : List ℕ
  pub is_bytes : bytes_of choice a.first a.second ≡ Some c
  pub least : AtMost c bytes

pub template_fits : (e : OpcodeEntry) (m : Fields) (d : List ℕ) (r : Template) → HasTemplate e m d r →
    (m.register < 8) × (m.rm < 8)
template_fits Unlisted m d r h = absurd h
template_fits (Plain p) m d r h = by (has_fields p) h.1
  where
    by : (f : Bool) → MaySpellFields f m d → (m.register < 8) × (m.rm < 8)
    by true s = (s.register_fits, s.rm_fits)
    by false s = (rw s.0 (omega arith), rw s.0 (omega arith))
template_fits (Group g) m d r h = (h.1.register_fits, h.1.rm_fits)
template_fits (Second c p) m d r h = (rw h.1 (omega arith), rw h.1 (omega arith))

pub action_least : (a : Action) (bytes : List ℕ) → SpellsAction a bytes → ActionLeast a bytes
unfolding bytes_of
action_least a bytes h =
    let fits = template_fits (entry_of h.first_byte) h.fields h.behind h.template h.has_template in
    let ch = chosen (entry_of h.first_byte) h.first_byte h.fields h.template h.behind (entry_regular h.first_byte)
    h.has_template in
    let p = operand_asks h.fields fits.0 fits.1 h.template.first a.first h.first_part h.first in
    let q = operand_asks h.fields fits.0 fits.1 h.template.second a.second h.second_part h.second in
    let middle = behind_bytes (either ch.choice.register (either p.demand.register q.demand.register))
    (either p.demand.place q.demand.place) ch.choice.second in
    let least : AtMost middle h.behind = rw (p.register, q.register, p.place, q.place) ch.least in
    record {
      b = h.first_byte;
      g = ch.g;
      choice = ch.choice;
      is_choice = ch.is_choice;
      mnemonic = ap (λ (r : Template). r.mnemonic) ch.is_template ∙ sym h.mnemonic;
      c = h.first_byte ∷ middle ++ (h.first_part ++ h.second_part);
      is_bytes = rw (ch.is_template, ch.is_opcode) (rw p.is_demand (rw q.is_demand (rw (p.tail, q.tail) refl)));
      least = rw h.parts (at_most_within h.first_byte middle h.behind (h.first_part ++ h.second_part) least);
    }
