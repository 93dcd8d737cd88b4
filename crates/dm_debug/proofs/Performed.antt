-- What a command does, from what its parts do.
use Rattle.std.proofs.Common.{◌≡◌, ℕ, List, [], ◌++◌, Result, Ok, Err, sym, ◌∙◌, ap, subst}
use Rattle.std.specs.Prelude.{OnOk}
use Rattle.dm_requests.specs.declared.commands.command.Command.{Command}
use Rattle.dm_debug.specs.Debugged.{Debugged}
use Rattle.dm_debug.specs.Sessions.{Displays, Does, shows, DoesPart}

pub on_ok_both : {T E P Q R : Type 0} (r : Result T E) → (P → Q → R) → OnOk r P → OnOk r Q → OnOk r R
on_ok_both (Ok v) f p q = f p q
on_ok_both (Err e) f p q = tt

-- a text that is put behind nothing
pub alone_is : (old new text : List ℕ) → old ≡ [] → new ≡ old ++ text → new ≡ text
alone_is old new text e k = k ∙ ap (λ (x : List ℕ). x ++ text) e

-- the same command of an equal session
pub does_same : (s t u : Debugged) (command other : Command) (new text : List ℕ) → s ≡ t → command ≡ other →
    new ≡ text → Does s other text u → Does t command new u
does_same s t u command other new text e f g h =
    subst (λ (x : Debugged). Does x command new u) e
    (subst (λ (x : Command). Does s x new u) (sym f)
    (subst (λ (x : List ℕ). Does s other x u) (sym g) h))

-- a command that changes nothing
pub does_show : (s t : Debugged) (command other : Command) (old new text : List ℕ) → s ≡ t → command ≡ other →
    old ≡ [] → new ≡ old ++ text → Displays s other text → Does t command new t
does_show s t command other old new text e f none g h =
    subst (λ (x : Debugged). Does t command new x) e (does_same s t s command other new text e f
    (alone_is old new text none g) (shows other text h))

pub part_same : (s t u : Debugged) (command other : Command) → s ≡ t → command ≡ other → DoesPart s other u →
    DoesPart t command u
part_same s t u command other e f h = subst (λ (x : Debugged). DoesPart x command u) e
    (subst (λ (x : Command). DoesPart s x u) (sym f) h)
