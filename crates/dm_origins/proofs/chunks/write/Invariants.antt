use Rattle.dm_origins.specs.inner.Freed.{within, Frees}
use Rattle.dm_origins.proofs.chunks.write.Given as goal

abbrev pub invariant-loop-paragraph : goal.invariant-loop-paragraph
invariant-loop-paragraph l = Frees (within l.first l.paragraph) l.origin l.initial.each l.each
