use Rattle.dm_decode.proofs.words.Readings.{no_spelled}
use Rattle.std.proofs.Common.{sym, ◌∙◌}
use Rattle.dm_decode.proofs.words.reading.taken_so.Goals as goal

pub returns-clause-none : goal.returns-clause-none
returns-clause-none c = no_spelled c.args.words.now c.args.way c.args.other c.in_ok-first.first c.in_ok-second.second
    c.spelled.result (sym c.take_as.ensures ∙ c.in_ok-first.was) (sym c.take_as-2.ensures
    ∙ c.in_ok-second.was) c.spelled.ensures.none
