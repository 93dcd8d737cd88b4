-- What is known of the values of an instruction of the table beyond their types, by the templates of its mnemonic.
use Rattle.std.proofs.Common.{◌≡◌, ℕ, ◌<◌, ◌^◌, Bool, true, false, ◌&&◌, List, Option, Some, None, refl, sym, subst, arith}
use Rattle.dm_ins.specs.declared.operand.Width.{Width}
use Rattle.dm_ins.specs.declared.operand.Width.TheVariants.{Byte, Word}
use Rattle.dm_ins.specs.declared.operand.Address.{Address}
use Rattle.dm_ins.specs.declared.operand.Operand.{Operand}
use Rattle.dm_ins.specs.declared.operand.Operand.TheVariants as operand
use Rattle.dm_ins.specs.declared.action.Mnemonic.{Mnemonic}
use Rattle.dm_ins.specs.declared.action.Mnemonic.TheVariants as op
use Rattle.dm_ins.specs.declared.action.Action.{Action}
use Rattle.dm_ins.specs.declared.fields.Fields.{Fields}
use Rattle.dm_ins.specs.declared.table.OperandKind.{OperandKind}
use Rattle.dm_ins.specs.declared.table.OperandKind.TheVariants as is
use Rattle.dm_ins.specs.declared.table.Template.{Template}
use Rattle.dm_ins.specs.Table.{entry_of}
use Rattle.dm_ins.specs.Spelling.{sign_extended, register, at_place, Fills, SpellsAction}
use Rattle.dm_ins.specs.inner.Search.{OperandFits}
use Rattle.dm_ins.proofs.TableRules.{both_true}
use Rattle.dm_ins.proofs.Shortest.{action_fits}
use Rattle.dm_decode.specs.words.StandIns.{is_move}
use Rattle.dm_decode.proofs.words.Templates.{if_template, entry_all, templates_all, of_template, register_fits}

-- ---- one form of target, of byte and of word for each mnemonic

-- mnemonics whose targets are words
unfoldable pub is_near : Mnemonic → Bool
is_near op.Call = true
is_near op.Jmp = true
is_near _ = false

unfoldable pub is_escape : Mnemonic → Bool
is_escape op.Esc = true
is_escape _ = false

unfoldable pub opposite : Bool → Bool
opposite true = false
opposite false = true

pub is_opposite : (b : Bool) → opposite b ≡ true → b ≡ false
unfolding opposite
is_opposite true e = absurd cc
is_opposite false e = refl

-- a kind of operand that the templates of a mnemonic may have
unfoldable pub suits : Mnemonic → OperandKind → Bool
suits m is.Short = opposite (is_near m)
suits m is.Near = is_near m
suits m (is.Escape r) = is_escape m
suits m is.ByteValue = opposite (is_escape m)
suits m is.SignedValue = opposite (is_move m)
suits m _ = true

unfoldable pub template_suits : Template → Bool
template_suits r = suits r.mnemonic r.first && suits r.mnemonic r.second

pub all_suit : templates_all template_suits ≡ true
unfolding templates_all entry_all if_template template_suits suits is_near is_escape opposite
all_suit = refl

-- ---- what is known of a value

-- a target of one byte is one extended by sign; ESC's number is one of 64
unfoldable pub Known : Mnemonic → Operand → Type 0
Known m (operand.Target d) = is_near m ≡ false → (j : ℕ) × (j < 2 ^ 8) × (d ≡ sign_extended j)
Known m (operand.ByteValue n) = is_escape m ≡ true → n < 64
Known m _ = Unit {0}

never : {P : Type 0} (b : Bool) → b ≡ true → b ≡ false → P
never b e f = absurd cc

register_known : (m : Mnemonic) (v : Width) (n : ℕ) → Known m (register v n)
unfolding Known
register_known m Byte n = tt
register_known m Word n = tt

place_known : (m : Mnemonic) (v : Width) (n : ℕ) (a : Option Address) → Known m (at_place v n a)
unfolding Known
place_known m v n None = register_known m v n
place_known m v n (Some a) = tt

known : (m : Mnemonic) (k : OperandKind) (f : Fields) (o : Operand) (d : List ℕ) → f.register < 8 → suits m k ≡ true →
    Fills k f o d → Known m o
unfolding Known suits
known m is.Nothing f o d lt s h = rw h.0 tt
known m (is.RegisterOrMemory v) f o d lt s h = rw h.0 (place_known m v f.rm f.memory)
known m (is.Register v) f o d lt s h = rw h.0 (register_known m v f.register)
known m is.Memory f o d lt s h = rw h.2 tt
known m is.ByteValue f o d lt s h = rw h.2 (λ e. never (is_escape m) e (is_opposite (is_escape m) s))
known m is.WordValue f o d lt s h = rw h.2 tt
known m is.SignedValue f o d lt s h = rw h.2 tt
known m is.Short f o d lt s h = rw h.2 (λ e. (h.0, h.1, refl))
known m is.Near f o d lt s h = rw h.2 (λ e. never (is_near m) s e)
known m (is.Direct v) f o d lt s h = rw h.2 tt
known m is.Far f o d lt s h = rw h.4 tt
known m (is.Escape r) f o d lt s h = rw h.0 (λ e. omega arith)
known m (is.Byte r) f o d lt s h = rw h.0 tt
known m (is.Word r) f o d lt s h = rw h.0 tt
known m (is.TheSegment r) f o d lt s h = rw h.0 tt
known m is.One f o d lt s h = rw h.0 tt

-- an instruction whose values are known, and fit their types
pub record KnownAction (a : Action) : Type 0 where
  pub first : Known a.mnemonic a.first
  pub second : Known a.mnemonic a.second
  pub first_fits : OperandFits a.first
  pub second_fits : OperandFits a.second

pub known_action : (a : Action) (x : List ℕ) → SpellsAction a x → KnownAction a
unfolding template_suits
known_action a x s =
    let suit = both_true _ _ (of_template template_suits s.first_byte s.fields s.behind s.template all_suit
    s.has_template) in
    let lt = register_fits (entry_of s.first_byte) s.fields s.behind s.template s.has_template in
    let fit = action_fits a x s in
    record {
      first = subst (λ (m : Mnemonic). Known m a.first) (sym s.mnemonic)
          (known s.template.mnemonic s.template.first s.fields a.first s.first_part lt suit.0 s.first);
      second = subst (λ (m : Mnemonic). Known m a.second) (sym s.mnemonic)
          (known s.template.mnemonic s.template.second s.fields a.second s.second_part lt suit.1 s.second);
      first_fits = fit.0;
      second_fits = fit.1;
    }
