-- An instruction of the table can be written.
use Rattle.std.proofs.Common.{◌≡◌, ℕ, Bool, true, false, List, Option, Some, None, ◌&&◌, refl, subst}
use Rattle.std.specs.Prelude.{if◌then◌else◌}
use Rattle.dm_ins.specs.declared.operand.Width.{Width}
use Rattle.dm_ins.specs.declared.operand.Width.TheVariants.{Byte, Word}
use Rattle.dm_ins.specs.declared.operand.Address.{Address}
use Rattle.dm_ins.specs.declared.operand.Operand.{Operand}
use Rattle.dm_ins.specs.declared.operand.Operand.TheVariants as operand
use Rattle.dm_ins.specs.declared.action.Mnemonic.{Mnemonic}
use Rattle.dm_ins.specs.declared.action.Action.{Action}
use Rattle.dm_ins.specs.declared.fields.Fields.{Fields}
use Rattle.dm_ins.specs.declared.table.OperandKind.{OperandKind}
use Rattle.dm_ins.specs.declared.table.OperandKind.TheVariants as is
use Rattle.dm_ins.specs.declared.table.Template.{Template}
use Rattle.dm_ins.specs.Spelling.{register, at_place, Fills, SpellsAction}
use Rattle.dm_ins.proofs.TableRules.{both_true}
use Rattle.dm_decode.proofs.words.Templates.{if_template, entry_all, templates_all, of_template}
use Rattle.dm_lines.specs.Statements.{is_memory, exchanges}
use Rattle.dm_lines.specs.Own.{own_term}
use Rattle.dm_lines.proofs.Stated.{is_nothing, CanBeWritten}

-- ---- a test of every template

unfoldable names_nothing : OperandKind → Bool
names_nothing is.Nothing = true
names_nothing _ = false

unfoldable names_no_memory : OperandKind → Bool
names_no_memory (is.RegisterOrMemory w) = false
names_no_memory is.Memory = false
names_no_memory (is.Direct w) = false
names_no_memory _ = true

-- the first operand is there where the second one is, and memory is not the second where operands are exchanged
unfoldable template_is_written : Template → Bool
template_is_written r = (if names_nothing r.first then names_nothing r.second else true) &&
    (if exchanges r.mnemonic then names_no_memory r.second else true)

all_are_written : templates_all template_is_written ≡ true
unfolding templates_all entry_all if_template template_is_written names_nothing names_no_memory
all_are_written = refl

-- ---- operands

register_is_some : (w : Width) (n : ℕ) → is_nothing (register w n) ≡ false
unfolding is_nothing
register_is_some Byte n = refl
register_is_some Word n = refl

place_is_some : (w : Width) (n : ℕ) (a : Option Address) → is_nothing (at_place w n a) ≡ false
unfolding is_nothing
place_is_some w n None = register_is_some w n
place_is_some w n (Some a) = refl

never : {P : Type 0} (b : Bool) → b ≡ false → b ≡ true → P
never b e f = absurd cc

nothing_is_named : (k : OperandKind) (m : Fields) (o : Operand) (d : List ℕ) → Fills k m o d → is_nothing o ≡ true →
    names_nothing k ≡ true
unfolding names_nothing is_nothing
nothing_is_named is.Nothing m o d f h = refl
nothing_is_named (is.RegisterOrMemory w) m o d f h = never (is_nothing o) (rw f.0 (place_is_some w m.rm m.memory)) h
nothing_is_named (is.Register w) m o d f h = never (is_nothing o) (rw f.0 (register_is_some w m.register)) h
nothing_is_named is.Memory m o d f h = never (is_nothing o) (rw f.2 refl) h
nothing_is_named is.ByteValue m o d f h = never (is_nothing o) (rw f.2 refl) h
nothing_is_named is.WordValue m o d f h = never (is_nothing o) (rw f.2 refl) h
nothing_is_named is.SignedValue m o d f h = never (is_nothing o) (rw f.2 refl) h
nothing_is_named is.Short m o d f h = never (is_nothing o) (rw f.2 refl) h
nothing_is_named is.Near m o d f h = never (is_nothing o) (rw f.2 refl) h
nothing_is_named (is.Direct w) m o d f h = never (is_nothing o) (rw f.2 refl) h
nothing_is_named is.Far m o d f h = never (is_nothing o) (rw f.4 refl) h
nothing_is_named (is.Escape r) m o d f h = never (is_nothing o) (rw f.0 refl) h
nothing_is_named (is.Byte r) m o d f h = never (is_nothing o) (rw f.0 refl) h
nothing_is_named (is.Word r) m o d f h = never (is_nothing o) (rw f.0 refl) h
nothing_is_named (is.TheSegment r) m o d f h = never (is_nothing o) (rw f.0 refl) h
nothing_is_named is.One m o d f h = never (is_nothing o) (rw f.0 refl) h

named_nothing : (k : OperandKind) (m : Fields) (o : Operand) (d : List ℕ) → Fills k m o d → names_nothing k ≡ true →
    o ≡ operand.Nothing
unfolding names_nothing
named_nothing is.Nothing m o d f h = f.0
named_nothing (is.RegisterOrMemory w) m o d f h = absurd cc
named_nothing (is.Register w) m o d f h = absurd cc
named_nothing is.Memory m o d f h = absurd cc
named_nothing is.ByteValue m o d f h = absurd cc
named_nothing is.WordValue m o d f h = absurd cc
named_nothing is.SignedValue m o d f h = absurd cc
named_nothing is.Short m o d f h = absurd cc
named_nothing is.Near m o d f h = absurd cc
named_nothing (is.Direct w) m o d f h = absurd cc
named_nothing is.Far m o d f h = absurd cc
named_nothing (is.Escape r) m o d f h = absurd cc
named_nothing (is.Byte r) m o d f h = absurd cc
named_nothing (is.Word r) m o d f h = absurd cc
named_nothing (is.TheSegment r) m o d f h = absurd cc
named_nothing is.One m o d f h = absurd cc

register_term : (a : Action) (next : ℕ) (w : Width) (n : ℕ) → is_memory (own_term a next (register w n)) ≡ false
register_term a next Byte n = refl
register_term a next Word n = refl

named_no_memory : (a : Action) (next : ℕ) (k : OperandKind) (m : Fields) (o : Operand) (d : List ℕ) → Fills k m o d →
    names_no_memory k ≡ true → is_memory (own_term a next o) ≡ false
unfolding names_no_memory
named_no_memory a next is.Nothing m o d f h = rw f.0 refl
named_no_memory a next (is.RegisterOrMemory w) m o d f h = absurd cc
named_no_memory a next (is.Register w) m o d f h = rw f.0 (register_term a next w m.register)
named_no_memory a next is.Memory m o d f h = absurd cc
named_no_memory a next is.ByteValue m o d f h = rw f.2 refl
named_no_memory a next is.WordValue m o d f h = rw f.2 refl
named_no_memory a next is.SignedValue m o d f h = rw f.2 refl
named_no_memory a next is.Short m o d f h = rw f.2 refl
named_no_memory a next is.Near m o d f h = rw f.2 refl
named_no_memory a next (is.Direct w) m o d f h = absurd cc
named_no_memory a next is.Far m o d f h = rw f.4 refl
named_no_memory a next (is.Escape r) m o d f h = rw f.0 refl
named_no_memory a next (is.Byte r) m o d f h = rw f.0 refl
named_no_memory a next (is.Word r) m o d f h = rw f.0 refl
named_no_memory a next (is.TheSegment r) m o d f h = rw f.0 refl
named_no_memory a next is.One m o d f h = rw f.0 refl

-- ---- instructions

where_true : (c d : Bool) → (if c then d else true) ≡ true → c ≡ true → d ≡ true
where_true true d e f = e
where_true false d e f = absurd cc

where_false : (c d : Bool) → (c ≡ true → d ≡ false) → (if c then d else false) ≡ false
where_false true d f = f refl
where_false false d f = refl

pub can_be_written : (a : Action) (x : List ℕ) (next : ℕ) → SpellsAction a x → CanBeWritten a next
unfolding template_is_written
can_be_written a x next s =
    let t = both_true _ _ (of_template template_is_written s.first_byte s.fields s.behind s.template all_are_written
    s.has_template) in
    record {
      alone = λ h. named_nothing s.template.second s.fields a.second s.second_part s.second
          (where_true (names_nothing s.template.first) (names_nothing s.template.second) t.0
          (nothing_is_named s.template.first s.fields a.first s.first_part s.first h));
      in_place = where_false (exchanges a.mnemonic) (is_memory (own_term a next a.second))
          (λ e. named_no_memory a next s.template.second s.fields a.second s.second_part s.second
          (where_true (exchanges s.template.mnemonic) (names_no_memory s.template.second) t.1
          (subst (λ (m : Mnemonic). exchanges m ≡ true) s.mnemonic e)));
    }
