use Rattle.dm_ins.specs.inner.Search.{Best, seen_bytes}
use Rattle.dm_ins.proofs.search.least.Given as goal

-- of the templates so far
abbrev pub invariant-loop-key : goal.invariant-loop-key
invariant-loop-key l = Best l.key-index l.keys l.action (seen_bytes l.best)
