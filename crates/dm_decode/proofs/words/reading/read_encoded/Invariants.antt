use Rattle.dm_decode.specs.words.inner.Search.{FirstWays, IsNot}
use Rattle.dm_decode.proofs.words.reading.read_encoded.Given as goal

-- none so far
abbrev pub invariant-loop-way : goal.invariant-loop-way
invariant-loop-way l = FirstWays l.way-index (λ way. FirstWays 4 (IsNot l.words way))
