-- The instructions whose effect goes by their first operand though they read no memory for it: jumps and returns. In
-- the table it is a displacement, a number, or none.
use Rattle.std.proofs.Common.{◌≡◌, ℕ, Bool, true, false, cond, not, List, Option, Some, None, refl, sym, ◌∙◌, ap, subst}
use Rattle.std.specs.List.{list_all}
use Rattle.std.proofs.Math.Bool.{Bool-set}
use Rattle.std.proofs.Math.Logic.{∥∥₁_elim}
use Rattle.dm_ins.specs.declared.action.Mnemonic.{Mnemonic}
use Rattle.dm_ins.specs.declared.action.Mnemonic.TheVariants as op
use Rattle.dm_ins.specs.declared.action.Action.{Action}
use Rattle.dm_ins.specs.declared.fields.Fields.{Fields}
use Rattle.dm_ins.specs.declared.ins.Ins.{Ins}
use Rattle.dm_ins.specs.declared.operand.Operand.{Operand}
use Rattle.dm_ins.specs.declared.operand.Operand.TheVariants as operand
use Rattle.dm_ins.specs.declared.operand.Width.{Width}
use Rattle.dm_ins.specs.declared.operand.Width.TheVariants.{Byte, Word}
use Rattle.dm_ins.specs.declared.table.OperandKind.{OperandKind}
use Rattle.dm_ins.specs.declared.table.OperandKind.TheVariants as is
use Rattle.dm_ins.specs.declared.table.OpcodeEntry.{OpcodeEntry}
use Rattle.dm_ins.specs.declared.table.OpcodeEntry.TheVariants.{Unlisted, Plain, Group, Second}
use Rattle.dm_ins.specs.declared.table.Template.{Template}
use Rattle.dm_ins.specs.Spelling.{Fills, HasTemplate, SpellsAction, register}
use Rattle.dm_ins.specs.Table.{entries, entry_of, groups, member_of}
use Rattle.dm_ins.proofs.TableRules.{passes}

-- the operand is in memory
abbrev pub is_memory : Operand → Bool
is_memory (operand.Memory w a) = true
is_memory _ = false

-- the first operand decides what the instruction does, and is not read from memory
abbrev pub goes_by_operand : Mnemonic → Bool
goes_by_operand op.Jo = true
goes_by_operand op.Jno = true
goes_by_operand op.Jb = true
goes_by_operand op.Jae = true
goes_by_operand op.Jz = true
goes_by_operand op.Jnz = true
goes_by_operand op.Jbe = true
goes_by_operand op.Ja = true
goes_by_operand op.Js = true
goes_by_operand op.Jns = true
goes_by_operand op.Jp = true
goes_by_operand op.Jnp = true
goes_by_operand op.Jl = true
goes_by_operand op.Jge = true
goes_by_operand op.Jle = true
goes_by_operand op.Jg = true
goes_by_operand op.Loop = true
goes_by_operand op.Loope = true
goes_by_operand op.Loopne = true
goes_by_operand op.Jcxz = true
goes_by_operand op.JmpShort = true
goes_by_operand op.Ret = true
goes_by_operand op.Retf = true
goes_by_operand _ = false

-- the first operand of such an instruction is not in memory
abbrev pub HasTarget : Mnemonic → Operand → Type 0
HasTarget m o = cond (goes_by_operand m) (is_memory o) false ≡ false

-- ---- templates

-- an operand of the kind may be in memory
abbrev may_be_memory : OperandKind → Bool
may_be_memory (is.RegisterOrMemory w) = true
may_be_memory is.Memory = true
may_be_memory (is.Direct w) = true
may_be_memory _ = false

template_fits : Template → Bool
template_fits r = cond (goes_by_operand r.mnemonic) (not (may_be_memory r.first)) true

entry_fits : OpcodeEntry → Bool
entry_fits Unlisted = true
entry_fits (Plain r) = template_fits r
entry_fits (Group g) = true
entry_fits (Second c r) = template_fits r

member_fits : Option Template → Bool
member_fits None = true
member_fits (Some r) = template_fits r

all_entries_fit : (b : ℕ) → entry_fits (entry_of b) ≡ true
unfolding entry_of entry_fits template_fits
all_entries_fit b = passes entry_fits Unlisted refl entries b refl

all_members_fit : (g r : ℕ) → member_fits (member_of g r) ≡ true
unfolding member_of member_fits template_fits
all_members_fit g r = passes member_fits None refl _ r (passes (list_all member_fits) _ refl groups g refl)

template_of : (e : OpcodeEntry) (m : Fields) (d : List ℕ) (r : Template) → entry_fits e ≡ true → HasTemplate e m d r →
    template_fits r ≡ true
unfolding entry_fits member_fits
template_of Unlisted m d r e h = absurd h
template_of (Plain p) m d r e h = ap template_fits h.0 ∙ e
template_of (Group g) m d r e h = subst (λ (o : Option Template). member_fits o ≡ true) h.0
    (all_members_fit g m.register)
template_of (Second c p) m d r e h = ap template_fits h.0 ∙ e

-- ---- operands

register_apart : (w : Width) (n : ℕ) → is_memory (register w n) ≡ false
register_apart Byte n = refl
register_apart Word n = refl

apart : (k : OperandKind) (m : Fields) (o : Operand) (d : List ℕ) → not (may_be_memory k) ≡ true → Fills k m o d →
    is_memory o ≡ false
apart is.Nothing m o d e f = ap is_memory f.0
apart (is.RegisterOrMemory w) m o d e f = absurd cc
apart (is.Register w) m o d e f = ap is_memory f.0 ∙ register_apart w m.register
apart is.Memory m o d e f = absurd cc
apart is.ByteValue m o d e f = ap is_memory f.2
apart is.WordValue m o d e f = ap is_memory f.2
apart is.SignedValue m o d e f = ap is_memory f.2
apart is.Short m o d e f = ap is_memory f.2
apart is.Near m o d e f = ap is_memory f.2
apart (is.Direct w) m o d e f = absurd cc
apart is.Far m o d e f = ap is_memory f.4
apart (is.Escape r) m o d e f = ap is_memory f.0
apart (is.Byte r) m o d e f = ap is_memory f.0
apart (is.Word r) m o d e f = ap is_memory f.0
apart (is.TheSegment r) m o d e f = ap is_memory f.0
apart is.One m o d e f = ap is_memory f.0

chosen : (b k memory : Bool) → cond b (not k) true ≡ true → (not k ≡ true → memory ≡ false) →
    cond b memory false ≡ false
chosen true k memory e f = f e
chosen false k memory e f = refl

template_target : (r : Template) (m : Fields) (o : Operand) (d : List ℕ) → template_fits r ≡ true →
    Fills r.first m o d → HasTarget r.mnemonic o
unfolding template_fits
template_target r m o d e f = chosen (goes_by_operand r.mnemonic) (may_be_memory r.first) (is_memory o) e
    (λ k. apart r.first m o d k f)

action_target : (a : Action) (bytes : List ℕ) → SpellsAction a bytes → HasTarget a.mnemonic a.first
action_target a bytes s =
    let fits : template_fits s.template ≡ true = template_of (entry_of s.first_byte) s.fields s.behind s.template
    (all_entries_fit s.first_byte) s.has_template in
    subst (λ (m : Mnemonic). HasTarget m a.first) (sym s.mnemonic) (template_target s.template s.fields a.first
    s.first_part fits s.first)

-- so it is in each instruction
pub has_target : (i : Ins) → HasTarget i.action.mnemonic i.action.first
has_target i =
    let each : (x : (bytes : List ℕ) × SpellsAction i.action bytes) → HasTarget i.action.mnemonic i.action.first =
    λ x. action_target i.action x.0 x.1 in
    let one : IsProp (HasTarget i.action.mnemonic i.action.first) = hlevel Bool-set in
    ∥∥₁_elim i.has_spelling one each
