-- What is written for one line.
use Rattle.std.proofs.Common.{◌≡◌, ℕ, Bool, true, false, List, Option, sym, subst, refl}
use Rattle.std.proofs.KnownBytes.{Appends-kept, Keeps-refl}
use Rattle.std.specs.Io.KnownBytes.{Appends, Keeps}
use Rattle.dm_requests.specs.commands.Commands.{command_of}
use Rattle.dm_debug.specs.Debugged.{Debugged}
use Rattle.dm_debug.specs.Sessions.{IsAnswered, IsCutOff, IsPartlyWritten, is_syntax, is_full}
use Rattle.dm_console.specs.writers.Out.{AppendsPart, HasFailed}
use Rattle.dm_cli.specs.declared.fault.Fault.{Fault}
use Rattle.dm_cli.specs.declared.fault.Fault.TheVariants.{OutOfMemory}
use Rattle.dm_cli.specs.Faults.{IsWriteFault}
use Rattle.dm_cli.specs.Debugging.{Tells, answered}
use Rattle.dm_cli.specs.inner.Debugging.{IsAnsweredBy, IsUnanswered, cut_short, partly, unflushed}

not_true : (b : Bool) → ¬ (b ≡ true) → b ≡ false
not_true true h = absurd (h refl)
not_true false h = refl

-- a command's answer
pub told_command : (s t : Debugged) (line : List ℕ) (a b : Option (List ℕ)) → ¬ (is_syntax s (command_of line) ≡ true) →
    ¬ (is_full s (command_of line) ≡ true)
    → IsAnswered s line t a b → IsAnsweredBy s line t a b
told_command s t line a b no_syntax no_full h = record {
  text = h.text;
  tells = answered h.command t h.text h.read (rw h.read at (not_true _ no_syntax)) (rw h.read at (not_true _ no_full))
      h.does;
  written = h.written;
}

pub part_of_command : (s t : Debugged) (line : List ℕ) (a b : Option (List ℕ)) (opened failures : ℕ) (fault : Fault) →
    ¬ (is_syntax s (command_of line) ≡ true) → ¬ (is_full s (command_of line) ≡ true)
    → IsPartlyWritten s line t a b → HasFailed opened failures → IsWriteFault fault →
    IsUnanswered s line t a b opened failures fault
part_of_command s t line a b opened failures fault no_syntax no_full h failed is =
    partly h.text fault (answered h.command t h.text h.read (rw h.read at (not_true _ no_syntax))
    (rw h.read at (not_true _ no_full)) h.does) h.written failed is

-- why a line is refused
pub told_refusal : (s t : Debugged) (line text : List ℕ) (a b c : Option (List ℕ)) → Tells s line s text → t ≡ s →
    b ≡ a → Appends b c text → IsAnsweredBy s line t a c
told_refusal s t line text a b c tells same kept h = record {
  text = text;
  tells = subst (λ u. Tells s line u text) (sym same) tells;
  written = subst (λ o. Appends o c text) kept h;
}

pub part_of_refusal : (s t : Debugged) (line text : List ℕ) (a b c : Option (List ℕ)) (opened failures : ℕ)
    (fault : Fault) → Tells s line s text → t ≡ s → b ≡ a
    → IsWriteFault fault × AppendsPart b c text × (HasFailed opened failures) →
    IsUnanswered s line t a c opened failures fault
part_of_refusal s t line text a b c opened failures fault tells same kept h =
    partly text fault (subst (λ u. Tells s line u text) (sym same) tells) (subst (λ o. AppendsPart o c text) kept h.1)
    h.2 h.0

-- an answer that was written, and then not handed on
pub not_flushed : (s t : Debugged) (line : List ℕ) (a b c : Option (List ℕ)) (opened failures : ℕ) (fault : Fault) →
    IsAnsweredBy s line t a b → Keeps b c → HasFailed opened failures
    → IsWriteFault fault → IsUnanswered s line t a c opened failures fault
not_flushed s t line a b c opened failures fault h kept failed is =
    unflushed h.text fault h.tells (Appends-kept a b c h.text h.written kept) failed is

pub handed_on : (s t : Debugged) (line : List ℕ) (a b c : Option (List ℕ)) → IsAnsweredBy s line t a b → Keeps b c →
    IsAnsweredBy s line t a c
handed_on s t line a b c h kept = record {
  text = h.text;
  tells = h.tells;
  written = Appends-kept a b c h.text h.written kept;
}

pub cut_at : (s t : Debugged) (line : List ℕ) (a b : Option (List ℕ)) (opened failures : ℕ) → IsCutOff s line t →
    b ≡ a → failures ≡ opened → IsUnanswered s line t a b opened failures OutOfMemory
cut_at s t line a b opened failures h kept same = cut_short h (subst (λ o. Keeps a o) (sym kept) (Keeps-refl a)) same
