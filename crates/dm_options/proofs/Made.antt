-- A subcommand that was made and added.
use Rattle.std.proofs.Common.{◌≡◌, ◌∙◌, ap, false, Result, Ok, Err, IfOk, IsOk, OnOk}
use Rattle.std.specs.declared.alloc.AllocError.{AllocError}
use Rattle.clap.specs.Words.{App, app_of, with_subcommand}
use Rattle.clap.specs.declared.Command.TheViews.{out-Command as fields_of}
use Rattle.clap.specs.declared.builder.command.Command.{Command}

pub app_with : (made : Result Command AllocError) (a b before : App) → IsOk made → IfOk made (λ s. app_of s ≡ b) →
    IfOk made (λ s. (fields_of s).has_globals ≡ false)
    → IfOk made (λ s. (fields_of s).has_globals ≡ false → a ≡ with_subcommand before (app_of s).top) →
    a ≡ with_subcommand before b.top
app_with (Ok s) a b before ok is local h = h local ∙ ap (λ (t : App). with_subcommand before t.top) is
app_with (Err e) a b before ok is local h = absurd (cc)

-- the same of a command that may not have been made
pub app_with_last : (result made : Result Command AllocError) (b before : App) → OnOk result (IsOk made) →
    IfOk made (λ s. app_of s ≡ b) → IfOk made (λ s. (fields_of s).has_globals ≡ false)
    → IfOk result (λ c. IfOk made (λ s. (fields_of s).has_globals ≡ false →
    app_of c ≡ with_subcommand before (app_of s).top))
    → IfOk result (λ c. app_of c ≡ with_subcommand before b.top)
app_with_last (Ok c) made b before ok is local h = app_with made (app_of c) b before ok is local h
app_with_last (Err e) made b before ok is local h = tt
