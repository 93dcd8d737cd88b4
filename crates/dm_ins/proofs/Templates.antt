-- Each template's bytes spell the action.
use Rattle.std.proofs.Common.{◌≡◌, ℕ, ◌<◌, Bool, true, false, List, ◌∷◌, ◌++◌, Option, Some, None, refl, sym, ap, subst, ◌∙◌, eqb}
use Rattle.std.specs.Prelude.{cond}
use Rattle.dm_ins.specs.declared.fields.Fields.{Fields}
use Rattle.dm_ins.specs.declared.action.Action.{Action}
use Rattle.dm_ins.specs.declared.demand.RegisterOrMemory.TheVariants as place
use Rattle.dm_ins.specs.declared.demand.Demand.{Demand}
use Rattle.dm_ins.specs.declared.fill.Choice.{Choice}
use Rattle.dm_ins.specs.declared.table.Template.{Template}
use Rattle.dm_ins.specs.declared.table.OpcodeEntry.{OpcodeEntry}
use Rattle.dm_ins.specs.declared.table.OpcodeEntry.TheVariants.{Unlisted, Plain, Group, Second}
use Rattle.dm_ins.specs.Table.{entry_of, member_of}
use Rattle.dm_ins.specs.Spelling.{SpellsFields, has_fields, no_fields, MaySpellFields, HasTemplate, SpellsAction}
use Rattle.dm_ins.specs.inner.Search.{data_bytes, either, behind_bytes, bytes_of, choice_at, demand_of, CandidateAt}
use Rattle.dm_ins.proofs.TableRules.{both_true}
use Rattle.dm_ins.proofs.Demands.{asks_for_register, asks_for_place, asked, named_place}
use Rattle.dm_ins.proofs.Least.{exactly_one, neither, regular, regular_fields, regular_member, no_demand, entry_regular, group_regular}
use Rattle.dm_ins.proofs.Walks.{bind_some}
use Rattle.dm_ins.proofs.Sound.{PlaceIs, Shaped, demand_shape, operand_fills, fields_from, fields_spell, named_from, chosen_true, is_some}

joined : {A : Type 0} (P : A → Type 0) (s t : Bool) (x y : A) (u v : Option A) → u ≡ asked s x → v ≡ asked t y → P x →
    P y → exactly_one s t ≡ true
    → (z : A) × P z × (u ≡ asked s z) × (v ≡ asked t z) × (either u v ≡ Some z)
joined P true true x y u v p q px py e = absurd cc
joined P true false x y u v p q px py e = (x, px, p, q, rw p refl)
joined P false true x y u v p q px py e = (y, py, p, q, rw (p, q) refl)
joined P false false x y u v p q px py e = absurd cc

unjoined : {A : Type 0} (s t : Bool) (x y z : A) (u v : Option A) → u ≡ asked s x → v ≡ asked t y → neither s t ≡ true
    → (u ≡ asked s z) × (v ≡ asked t z) × (either u v ≡ None)
unjoined true t x y z u v p q e = absurd cc
unjoined false true x y z u v p q e = absurd cc
unjoined false false x y z u v p q e = (p, q, rw (p, q) refl)

abbrev behind_of : Choice → Demand → Demand → List ℕ
behind_of ch d e = behind_bytes (either ch.register (either d.register e.register)) (either d.place e.place) ch.second

record Agree (m : Fields) (r : Template) (d e : Demand) : Type 0 where
  first_register : d.register ≡ asked (asks_for_register r.first) m.register
  second_register : e.register ≡ asked (asks_for_register r.second) m.register
  first_place : d.place ≡ asked (asks_for_place r.first) (named_place m.rm m.memory)
  second_place : e.place ≡ asked (asks_for_place r.second) (named_place m.rm m.memory)

record Filled (en : OpcodeEntry) (b : ℕ) (ch : Choice) (d e : Demand) : Type 0 where
  m : Fields
  is_opcode : ch.opcode ≡ b
  has_template : HasTemplate en m (behind_of ch d e) ch.template
  agree : Agree m ch.template d e

module _ (p : Template) (d e : Demand) (s : Shaped p.first d) (t : Shaped p.second e) where
  none_agree : no_demand p ≡ true → Agree no_fields p d e × (either d.register e.register ≡ None)
  none_agree h =
      let u = both_true _ _ h in
      let r = unjoined (asks_for_register p.first) (asks_for_register p.second) s.number t.number 0 d.register
      e.register s.register t.register u.0 in
      let q = unjoined (asks_for_place p.first) (asks_for_place p.second) s.at t.at (place.Register 0) d.place e.place
      s.place t.place u.1 in
      (record { first_register = r.0; second_register = r.1; first_place = q.0; second_place = q.1 }, r.2)

  plain_filled : (f : Bool) → cond f (regular_fields p) (no_demand p) ≡ true → (m : Fields) ×
      MaySpellFields f m (behind_bytes (either d.register e.register) (either d.place e.place) None) × Agree m p d e
  plain_filled true h =
      let u = both_true _ _ h in
      let r = joined (λ n. n < 8) (asks_for_register p.first) (asks_for_register p.second) s.number t.number d.register
      e.register s.register t.register s.number_fits t.number_fits u.0 in
      let q = joined PlaceIs (asks_for_place p.first) (asks_for_place p.second) s.at t.at d.place e.place s.place
      t.place s.at_fits t.at_fits u.1 in
      let n = named_from r.0 q.0 in (
        fields_from r.0 q.0,
        rw (r.4, q.4) (fields_spell r.0 q.0 r.1 q.1),
        record {
          first_register = rw n.1 r.2;
          second_register = rw n.1 r.3;
          first_place = rw n.0 q.2;
          second_place = rw n.0 q.3;
        },
      )
  plain_filled false h =
      let a = none_agree h in
      (no_fields, (refl, rw a.1 refl), a.0)

  group_filled : (g : ℕ) → g < 8 → regular_member (Some p) ≡ true → (m : Fields) × (m.register ≡ g) ×
      SpellsFields m (behind_bytes (Some g) (either d.place e.place) None) × Agree m p d e
  group_filled g lt h =
      let u = both_true _ _ h in
      let r = unjoined (asks_for_register p.first) (asks_for_register p.second) s.number t.number g d.register
      e.register s.register t.register u.0 in
      let q = joined PlaceIs (asks_for_place p.first) (asks_for_place p.second) s.at t.at d.place e.place s.place
      t.place s.at_fits t.at_fits u.1 in
      let n = named_from g q.0 in (
        fields_from g q.0,
        n.1,
        rw q.4 (fields_spell g q.0 lt q.1),
        record {
          first_register = rw n.1 r.0;
          second_register = rw n.1 r.1;
          first_place = rw n.0 q.2;
          second_place = rw n.0 q.3;
        },
      )

abbrev Made : OpcodeEntry → ℕ → Demand → Demand → Choice → Type 0
Made en b d e ch = Shaped ch.template.first d → Shaped ch.template.second e → Filled en b ch d e

filled : (en : OpcodeEntry) (b g : ℕ) (ch : Choice) (d e : Demand) → regular en ≡ true → g < 8 →
    choice_at en b g ≡ Some ch → Made en b d e ch
filled Unlisted b g ch d e h lt i = absurd cc
filled (Plain p) b g ch d e h lt i =
    let c = chosen_true (eqb g 0) (record { opcode = b; template = p; register = None; second = None }) ch i in
    subst (Made (Plain p) b d e) c.1 (λ s t. let w = plain_filled p d e s t (has_fields p) h in
    record { m = w.0; is_opcode = refl; has_template = (refl, w.1); agree = w.2 })
filled (Group k) b g ch d e h lt i =
    let r = bind_some (member_of k g) _ ch i in
    subst (Made (Group k) b d e) (is_some _ ch r.2) (λ s t.
    let w = group_filled r.0 d e s t g lt (ap regular_member (sym r.1) ∙ group_regular k g) in
    record { m = w.0; is_opcode = refl; has_template = (ap (member_of k) w.1 ∙ r.1, w.2); agree = w.3 })
filled (Second c p) b g ch d e h lt i =
    let v = chosen_true (eqb g 0) (record { opcode = b; template = p; register = None; second = Some c }) ch i in
    subst (Made (Second c p) b d e) v.1 (λ s t. let w = none_agree p d e s t h in
    record { m = no_fields; is_opcode = refl; has_template = (refl, refl, rw w.1 refl); agree = w.0 })

pub action_sound : (b g : ℕ) (a : Action) (c : List ℕ) → g < 8 → CandidateAt b g a c → SpellsAction a c
unfolding bytes_of
action_sound b g a c fits h =
    let x = bind_some (demand_of h.choice.template.first a.first) _ c h.is_bytes in
    let y = bind_some (demand_of h.choice.template.second a.second) _ c x.2 in
    let s = demand_shape x.0 h.choice.template.first a.first h.first_fits x.1 in
    let t = demand_shape y.0 h.choice.template.second a.second h.second_fits y.1 in
    let l = filled (entry_of b) b g h.choice x.0 y.0 (entry_regular b) fits h.is_choice s t in
    record {
      first_byte = b;
      fields = l.m;
      template = h.choice.template;
      behind = behind_of h.choice x.0 y.0;
      first_part = data_bytes x.0.tail;
      second_part = data_bytes y.0.tail;
      has_template = l.has_template;
      mnemonic = sym h.mnemonic;
      first = operand_fills l.m x.0 h.choice.template.first a.first h.first_fits x.1 l.agree.first_register
          l.agree.first_place;
      second = operand_fills l.m y.0 h.choice.template.second a.second h.second_fits y.1 l.agree.second_register
          l.agree.second_place;
      parts = ap (λ (z : List ℕ). z) (sym (is_some _ c y.2)) ∙ ap (λ (k : ℕ). k ∷ behind_of h.choice x.0 y.0
          ++ (data_bytes x.0.tail ++ data_bytes y.0.tail)) l.is_opcode;
    }
