use Rattle.dm_decode.specs.words.inner.Search.{FirstWays, IsNot}
use Rattle.dm_decode.proofs.words.reading.taken_first.Given as goal

-- none so far
abbrev pub invariant-loop-other : goal.invariant-loop-other
invariant-loop-other l = FirstWays l.other-index (IsNot l.words l.way)
