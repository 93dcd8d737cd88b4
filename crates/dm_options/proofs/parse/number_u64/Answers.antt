use Rattle.clap.proofs.WalkLemmas.{one_text-rows}
use Rattle.clap.specs.Words.{found_of}
use Rattle.dm_options.proofs.Getters.{given_number}
use Rattle.dm_options.proofs.parse.number_u64.Goals as goal

pub returns : goal.returns
returns c = rw (c.ok_or.ensures.value, ← one_text-rows (found_of c.args.matches.now) c.args.id.now)
    (given_number 64 _ _ _ c.get_one.ensures.none c.get_one.ensures.value)
