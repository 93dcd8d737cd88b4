use Rattle.dm_decode.proofs.words.Readings.{one_more}
use Rattle.std.proofs.Common.{arith}
use Rattle.dm_decode.specs.words.inner.Search.{IsNot}
use Rattle.dm_decode.proofs.words.reading.taken_first.Goals as goal

pub loop-other-preserved : goal.loop-other-preserved
loop-other-preserved c = one_more (IsNot c.args.words.now c.args.way) c.loop-other.other-index c.loop-other.invariant
    c.in_default.ensures.none

pub returns-clause-none : goal.returns-clause-none
returns-clause-none c = λ k lt. c.loop-other.invariant k (omega arith)
