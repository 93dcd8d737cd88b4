use Rattle.std.proofs.Common.{◌≡◌, ◌∙◌, [], Option, List, map, refl, ap, subst, true, inl, inr}
use Rattle.std.specs.Prelude.{IsSomeAnd}
use Rattle.clap.specs.Words.{App, Row, Text, fault_of, HasKind, is_simple, is_simple_and_free, subcommand_of}
use Rattle.clap.proofs.OnLiterals.{clap_on_literals}
use Rattle.dm_options.specs.Arguments.{dm_app}
use Rattle.dm_options.specs.Options.{HasOptions}
use Rattle.dm_options.proofs.parse.options.Goals as goal

-- the command is one of those whose faults and matches `clap` states
free : is_simple_and_free dm_app ≡ true
unfolding clap_on_literals dm_app
free = refl

simple : is_simple dm_app ≡ true
unfolding clap_on_literals dm_app
simple = refl

pub returns-in_default-kind : goal.returns-in_default-kind
returns-in_default-kind g c =
    let words = map g.S.AsStr.text c.args.words.now in
    let made = c.in-Ok.ensures in
    record {
      ok = tt;
      no_fault = tt;
      err = elim (subst (λ a. HasKind (fault_of a words) c.in-Err.error) made (c.in-Err.ensures.kinds
          (ap is_simple_and_free made ∙ free))) [
            | inl memory ↦ absurd (c.in_default-kind.not-OutOfMemory (c.kind.ensures ∙ memory))
            | inr among ↦ among
          ];
    }

pub returns-in-Ok-found_options-clause-ok : goal.returns-in-Ok-found_options-clause-ok
returns-in-Ok-found_options-clause-ok g c =
    let words = map g.S.AsStr.text c.args.words.now in
    let made = c.in-Ok.ensures in
    let arguments = (c.in-Ok-try_get_matches_from.ensures.matches (ap is_simple made ∙ simple)).1
    ∙ ap (λ (a : App). subcommand_of a words) made in
    subst (λ (o : Option (Text × List Row)). IsSomeAnd o (λ given. HasOptions given c.in-Ok-found_options.options))
    arguments c.in-Ok-found_options.ensures

pub returns-in-Ok-found_options-clause-no_fault : goal.returns-in-Ok-found_options-clause-no_fault
returns-in-Ok-found_options-clause-no_fault g c =
    let words = map g.S.AsStr.text c.args.words.now in
    let made = c.in-Ok.ensures in
    subst (λ a. fault_of a words ≡ []) made (c.in-Ok-try_get_matches_from.ensures.kinds (ap is_simple_and_free made
    ∙ free))
