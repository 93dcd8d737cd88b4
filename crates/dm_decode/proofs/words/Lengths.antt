-- Words in which others stand for some values are an instruction wherever the words are one, and one as long.
use Rattle.std.proofs.Common.{◌≡◌, ℕ, ◌<◌, Bool, true, false, List, ◌∷◌, ◌++◌, length, refl, sym, ap, subst, ◌∙◌, arith, inl}
use Rattle.std.specs.Prelude.{if◌then◌else◌}
use Rattle.std.proofs.lemmas.List.{length-append}
use Rattle.dm_ins.specs.declared.action.Mnemonic.{Mnemonic}
use Rattle.dm_ins.specs.declared.action.Action.{Action}
use Rattle.dm_ins.specs.declared.fields.Fields.{Fields}
use Rattle.dm_ins.specs.declared.table.Template.{Template}
use Rattle.dm_ins.specs.Table.{entry_of}
use Rattle.dm_ins.specs.Spelling.{Fills, SpellsAction}
use Rattle.dm_ins.proofs.TableRules.{both_true}
use Rattle.dm_decode.proofs.words.Templates.{if_template, entry_all, templates_all, of_template, register_fits}
use Rattle.dm_decode.proofs.words.Known.{Known, KnownAction, suits, template_suits, all_suit, opposite, is_opposite}
use Rattle.dm_decode.proofs.words.Alike.{Alike, uses_memory, exchanged}
use Rattle.dm_decode.proofs.words.Places.{Moved, same_register, still_template, placed}

-- no template has two operands in memory by the mod r/m byte
one_place : Template → Bool
one_place r = if uses_memory r.first then opposite (uses_memory r.second) else true

all_one_place : templates_all one_place ≡ true
unfolding templates_all entry_all if_template one_place uses_memory opposite
all_one_place = refl

-- two actions that are alike but for values
pub record AlikeActions (a b : Action) : Type 0 where
  pub mnemonic : b.mnemonic ≡ a.mnemonic
  pub first : Alike a.mnemonic a.first b.first
  pub second : Alike a.mnemonic a.second b.second

abbrev pub AsLong : Action → List ℕ → Type 0
AsLong b x = (y : List ℕ) × SpellsAction b y × (length y ≡ length x)

-- the template of an instruction with other operands
record Parts (a b : Action) (x : List ℕ) (s : SpellsAction a x) : Type 0 where
  g : Fields
  moved : Moved s.fields g
  first_part : List ℕ
  second_part : List ℕ
  first : Fills s.template.first g b.first first_part
  second : Fills s.template.second g b.second second_part
  first_long : length first_part ≡ length s.first_part
  second_long : length second_part ≡ length s.second_part

same_length : (b : ℕ) (h k u v s t : List ℕ) → length h ≡ length k → length u ≡ length s → length v ≡ length t →
    length (b ∷ h ++ (u ++ v)) ≡ length (b ∷ k ++ (s ++ t))
same_length b h k u v s t d e f = grind (arith, length-append)

joined : (a b : Action) (x : List ℕ) (s : SpellsAction a x) → b.mnemonic ≡ a.mnemonic → Parts a b x s → AsLong b x
joined a b x s e p =
    let r = still_template (entry_of s.first_byte) s.fields p.g s.behind s.template p.moved s.has_template in (
      s.first_byte ∷ r.0 ++ (p.first_part ++ p.second_part),
      record {
        first_byte = s.first_byte;
        fields = p.g;
        template = s.template;
        behind = r.0;
        first_part = p.first_part;
        second_part = p.second_part;
        has_template = r.1;
        mnemonic = e ∙ s.mnemonic;
        first = p.first;
        second = p.second;
        parts = refl;
      },
      same_length s.first_byte r.0 s.behind p.first_part p.second_part s.first_part s.second_part r.2 p.first_long
          p.second_long ∙ ap length (sym s.parts),
    )

pub as_long : (a b : Action) (x : List ℕ) → SpellsAction a x → KnownAction b → AlikeActions a b → AsLong b x
unfolding template_suits one_place
as_long a b x s kn al = joined a b x s al.mnemonic (by (uses_memory s.template.first) (uses_memory s.template.second)
    refl refl)
  where
    lt : s.fields.register < 8
    lt = register_fits (entry_of s.first_byte) s.fields s.behind s.template s.has_template

    m : b.mnemonic ≡ s.template.mnemonic
    m = al.mnemonic ∙ s.mnemonic

    suit : (suits s.template.mnemonic s.template.first ≡ true) × (suits s.template.mnemonic s.template.second ≡ true)
    suit = both_true _ _ (of_template template_suits s.first_byte s.fields s.behind s.template all_suit s.has_template)

    apart : one_place s.template ≡ true
    apart = of_template one_place s.first_byte s.fields s.behind s.template all_one_place s.has_template

    first_alike : Alike s.template.mnemonic a.first b.first
    first_alike = subst (λ (n : Mnemonic). Alike n a.first b.first) s.mnemonic al.first

    second_alike : Alike s.template.mnemonic a.second b.second
    second_alike = subst (λ (n : Mnemonic). Alike n a.second b.second) s.mnemonic al.second

    first_known : Known s.template.mnemonic b.first
    first_known = subst (λ (n : Mnemonic). Known n b.first) m kn.first

    second_known : Known s.template.mnemonic b.second
    second_known = subst (λ (n : Mnemonic). Known n b.second) m kn.second

    by : (f g : Bool) → uses_memory s.template.first ≡ f → uses_memory s.template.second ≡ g → Parts a b x s
    by true g e h =
        let p = placed s.template.mnemonic s.template.first s.fields a.first b.first s.first_part e first_alike
        kn.first_fits s.first in
        let none : uses_memory s.template.second ≡ false = is_opposite _ (rw e at apart) in
        let q = exchanged s.template.mnemonic s.template.second s.fields p.g a.second b.second s.second_part lt
        (same_register s.fields p.g p.moved) suit.1 none second_alike kn.second_fits second_known s.second in
        record {
          g = p.g;
          moved = p.moved;
          first_part = s.first_part;
          second_part = q.0;
          first = p.fills;
          second = q.1;
          first_long = refl;
          second_long = q.2;
        }
    by false true e h =
        let p = placed s.template.mnemonic s.template.second s.fields a.second b.second s.second_part h second_alike
        kn.second_fits s.second in
        let q = exchanged s.template.mnemonic s.template.first s.fields p.g a.first b.first s.first_part lt
        (same_register s.fields p.g p.moved) suit.0 e first_alike kn.first_fits first_known s.first in
        record {
          g = p.g;
          moved = p.moved;
          first_part = q.0;
          second_part = s.second_part;
          first = q.1;
          second = p.fills;
          first_long = q.2;
          second_long = refl;
        }
    by false false e h =
        let p = exchanged s.template.mnemonic s.template.first s.fields s.fields a.first b.first s.first_part lt refl
        suit.0 e first_alike kn.first_fits first_known s.first in
        let q = exchanged s.template.mnemonic s.template.second s.fields s.fields a.second b.second s.second_part lt
        refl suit.1 h second_alike kn.second_fits second_known s.second in
        record {
          g = s.fields;
          moved = inl refl;
          first_part = p.0;
          second_part = q.0;
          first = p.1;
          second = q.1;
          first_long = p.2;
          second_long = q.2;
        }
