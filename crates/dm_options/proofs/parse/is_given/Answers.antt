use Rattle.std.proofs.Common.{Option, subst}
use Rattle.clap.proofs.WalkLemmas.{one_text-rows}
use Rattle.clap.specs.Words.{Text, found_of}
use Rattle.dm_options.specs.Options.{IsGiven}
use Rattle.dm_options.proofs.parse.is_given.Goals as goal

pub returns : goal.returns
returns c = subst (λ (text : Option Text). IsGiven text c.get_flag.result)
    (one_text-rows (found_of c.args.matches.now) c.args.id.now)
    (record {
      given = c.get_flag.ensures.value;
      not_given = c.get_flag.ensures.other;
      unknown = c.get_flag.ensures.none;
    })
