-- The operands of an instruction that bytes spell have values of their kind.
use Rattle.std.proofs.Common.{Bool, ◌≡◌, ℕ, ◌+◌, ◌*◌, ◌%◌, ◌<◌, true, false, List, Option, Some, None, sym, ap, subst, arith}
use Rattle.dm_ins.specs.declared.operand.Width.{Width}
use Rattle.dm_ins.specs.declared.operand.Width.TheVariants.{Byte, Word}
use Rattle.dm_ins.specs.declared.operand.Address.{Address}
use Rattle.dm_ins.specs.declared.operand.Operand.{Operand}
use Rattle.dm_ins.specs.declared.fields.Fields.{Fields}
use Rattle.dm_ins.specs.declared.table.OperandKind.{OperandKind}
use Rattle.dm_ins.specs.declared.table.OperandKind.TheVariants as is
use Rattle.dm_ins.specs.declared.table.Template.{Template}
use Rattle.dm_ins.specs.declared.table.OpcodeEntry.{OpcodeEntry}
use Rattle.dm_ins.specs.declared.table.OpcodeEntry.TheVariants.{Unlisted, Plain, Group, Second}
use Rattle.dm_ins.specs.Spelling.{Fills, HasTemplate, MaySpellFields, SpellsAction, at_place, has_fields, register}
use Rattle.dm_ins.specs.Table.{entry_of}
use Rattle.dm_ins.specs.declared.action.Action.{Action}
use Rattle.dm_laws.specs.instructions.WellFormed.{InstructionsKeepWellFormed}
use Rattle.dm_laws.proofs.instructions.Operands.{AreValues}
use Rattle.dm_laws.proofs.instructions.Effects.{effect_kept, extended-below}

-- the reg field has three bits
may-small : (b : Bool) (m : Fields) (d : List ℕ) → MaySpellFields b m d → m.register < 8
may-small true m d s = s.register_fits
may-small false m d s = (let x : m.register ≡ 0 = ap (λ z. z.register) s.0 in omega arith)

template-small : (e : OpcodeEntry) (m : Fields) (d : List ℕ) (r : Template) → HasTemplate e m d r → m.register < 8
template-small Unlisted m d r h = absurd h
template-small (Plain p) m d r h = may-small (has_fields p) m d h.1
template-small (Group g) m d r h = h.1.register_fits
template-small (Second c p) m d r h = (let x : m.register ≡ 0 = ap (λ z. z.register) h.1 in omega arith)

register-values : (w : Width) (n : ℕ) → AreValues (register w n)
register-values Byte n = tt
register-values Word n = tt

place-values : (w : Width) (n : ℕ) (a : Option Address) → AreValues (at_place w n a)
place-values w n None = register-values w n
place-values w n (Some a) = tt

fills-values : (k : OperandKind) (m : Fields) (o : Operand) (d : List ℕ) → m.register < 8 → Fills k m o d → AreValues o
fills-values is.Nothing m o d h f = subst AreValues (sym f.0) tt
fills-values (is.RegisterOrMemory w) m o d h f = subst AreValues (sym f.0) (place-values w m.rm m.memory)
fills-values (is.Register w) m o d h f = subst AreValues (sym f.0) (register-values w m.register)
fills-values is.Memory m o d h f = subst AreValues (sym f.2) tt
fills-values is.ByteValue m o d h f = subst AreValues (sym f.2) f.1
fills-values is.WordValue m o d h f = subst AreValues (sym f.2) f.1
fills-values is.SignedValue m o d h f = subst AreValues (sym f.2) (extended-below f.0 f.1)
fills-values is.Short m o d h f = subst AreValues (sym f.2) (extended-below f.0 f.1)
fills-values is.Near m o d h f = subst AreValues (sym f.2) f.1
fills-values (is.Direct w) m o d h f = subst AreValues (sym f.2) tt
fills-values is.Far m o d h f = subst AreValues (sym f.4) (f.2, f.3)
fills-values (is.Escape r) m o d h f = subst AreValues (sym f.0) (let x : 8 * (r % 8) + m.register < 256 =
    omega arith in x)
fills-values (is.Byte r) m o d h f = subst AreValues (sym f.0) tt
fills-values (is.Word r) m o d h f = subst AreValues (sym f.0) tt
fills-values (is.TheSegment r) m o d h f = subst AreValues (sym f.0) tt
fills-values is.One m o d h f = subst AreValues (sym f.0) tt

action-small : (a : Action) (bytes : List ℕ) (s : SpellsAction a bytes) → s.fields.register < 8
action-small a bytes s = template-small (entry_of s.first_byte) s.fields s.behind s.template s.has_template

pub keeps_well_formed : InstructionsKeepWellFormed
keeps_well_formed g i bytes len w s =
    let a = s.action in
    let h = action-small i.action s.rest a in
    effect_kept g i len w (fills-values a.template.first a.fields i.action.first a.first_part h a.first)
    (fills-values a.template.second a.fields i.action.second a.second_part h a.second)
