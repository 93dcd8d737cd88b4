use Rattle.clap.proofs.WalkLemmas.{first_value-rows}
use Rattle.clap.specs.Words.{found_of}
use Rattle.dm_options.proofs.Getters.{given_text}
use Rattle.dm_options.proofs.parse.text_of.Goals as goal

pub returns : goal.returns
returns c = rw (c.ok_or.ensures.value, ← first_value-rows (found_of c.args.matches.now) c.args.id.now)
    (given_text _ _ _ c.get_str.ensures)
