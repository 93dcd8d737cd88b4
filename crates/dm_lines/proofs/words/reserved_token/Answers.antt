use Rattle.std.proofs.Common.{◌∙◌, Some, ap, sym}
use Rattle.std.specs.Prelude.{option_map}
use Rattle.dm_lines.specs.inner.Words.{meaning_of}
use Rattle.dm_lines.proofs.ReservedPairs.{reserved_is}
use Rattle.dm_lines.proofs.Reserved.{found_in_all}
use Rattle.dm_lines.proofs.words.reserved_token.Goals as goal

pub returns-in_err-found : goal.returns-in_err-found
returns-in_err-found c = c.from_residual.ensures
    ∙ ap (option_map meaning_of) (found_in_all c.args.word.now c.beginning.result.now _ _ c.beginning.ensures
    c.find.ensures c.in_err-found.was) ∙ sym (reserved_is c.args.word.now)

pub returns : goal.returns
returns c = ap Some c.meaning.ensures ∙ ap (option_map meaning_of) (found_in_all c.args.word.now c.beginning.result.now
    _ _ c.beginning.ensures c.find.ensures c.in_ok-found.was) ∙ sym (reserved_is c.args.word.now)
