-- What holds of every template of the table, by a test that is computed.
use Rattle.std.proofs.Common.{◌≡◌, ℕ, ◌<◌, Bool, true, false, List, [], Option, Some, None, get_or, ◌&&◌, refl, sym, subst, arith}
use Rattle.std.specs.List.{list_all}
use Rattle.dm_ins.specs.declared.fields.Fields.{Fields}
use Rattle.dm_ins.specs.declared.table.Template.{Template}
use Rattle.dm_ins.specs.declared.table.OpcodeEntry.{OpcodeEntry}
use Rattle.dm_ins.specs.declared.table.OpcodeEntry.TheVariants.{Unlisted, Plain, Group, Second}
use Rattle.dm_ins.specs.Table.{entries, groups, entry_of, member_of}
use Rattle.dm_ins.specs.Spelling.{HasTemplate, MaySpellFields, has_fields}
use Rattle.dm_ins.proofs.TableRules.{both_true, passes}

unfoldable pub if_template : (Template → Bool) → Option Template → Bool
if_template p None = true
if_template p (Some r) = p r

unfoldable pub entry_all : (Template → Bool) → OpcodeEntry → Bool
entry_all p Unlisted = true
entry_all p (Plain r) = p r
entry_all p (Group g) = true
entry_all p (Second c r) = p r

unfoldable pub templates_all : (Template → Bool) → Bool
templates_all p = list_all (entry_all p) entries && list_all (list_all (if_template p)) groups

of_member : (p : Template → Bool) (g k : ℕ) (r : Template) → list_all (list_all (if_template p)) groups ≡ true →
    member_of g k ≡ Some r → p r ≡ true
unfolding member_of if_template
of_member p g k r h e = subst (λ (o : Option Template). if_template p o ≡ true) e (passes (if_template p) None refl
    (get_or groups g []) k (passes (list_all (if_template p)) [] refl groups g h))

of_entry : (p : Template → Bool) (en : OpcodeEntry) (m : Fields) (d : List ℕ) (r : Template) → entry_all p en ≡ true →
    list_all (list_all (if_template p)) groups ≡ true → HasTemplate en m d r → p r ≡ true
unfolding entry_all
of_entry p Unlisted m d r h g x = absurd x
of_entry p (Plain q) m d r h g x = subst (λ (r : Template). p r ≡ true) (sym x.0) h
of_entry p (Group k) m d r h g x = of_member p k m.register r g x.0
of_entry p (Second c q) m d r h g x = subst (λ (r : Template). p r ≡ true) (sym x.0) h

-- a test that every template passes is passed by the template of an instruction
pub of_template : (p : Template → Bool) (b : ℕ) (m : Fields) (d : List ℕ) (r : Template) → templates_all p ≡ true →
    HasTemplate (entry_of b) m d r → p r ≡ true
unfolding templates_all entry_of entry_all
of_template p b m d r h x =
    let both = both_true _ _ h in
    of_entry p (entry_of b) m d r (passes (entry_all p) Unlisted refl entries b both.0) both.1 x

may_fit : (b : Bool) (m : Fields) (d : List ℕ) → MaySpellFields b m d → m.register < 8
may_fit true m d h = h.register_fits
may_fit false m d h = rw h.0 (omega arith)

pub register_fits : (en : OpcodeEntry) (m : Fields) (d : List ℕ) (r : Template) → HasTemplate en m d r → m.register < 8
register_fits Unlisted m d r h = absurd h
register_fits (Plain p) m d r h = may_fit (has_fields p) m d h.1
register_fits (Group g) m d r h = h.1.register_fits
register_fits (Second c p) m d r h = rw h.1 (omega arith)
