use Rattle.dm_decode.proofs.words.Readings.{are_words, no_words, one_more}
use Rattle.std.proofs.Common.{arith}
use Rattle.dm_decode.specs.words.inner.Search.{FirstWays, IsNot}
use Rattle.dm_decode.proofs.words.reading.read_encoded.Goals as goal

pub loop-way-preserved : goal.loop-way-preserved
loop-way-preserved c = one_more (λ way. FirstWays 4 (IsNot c.args.words.now way)) c.loop-way.way-index
    c.loop-way.invariant c.in_default.ensures.none

pub returns-clause-none : goal.returns-clause-none
returns-clause-none c = no_words c.args.words.now c.loop-way.way-index (omega arith) c.loop-way.invariant

pub returns-in-Some-clause-found : goal.returns-in-Some-clause-found
returns-in-Some-clause-found c = let f = c.in-Some.ensures.found in
    (f.0, are_words c.args.words.now _ f.1 c.in-Some.encoded.0.action f.2)
