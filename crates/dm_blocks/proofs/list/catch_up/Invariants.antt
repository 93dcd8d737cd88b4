use Rattle.std.proofs.Common.{List}
use Rattle.dm_blocks.specs.declared.header.Header.{Header}
use Rattle.dm_blocks.specs.inner.Reading.{AreLeft, IsCursor, steps_left}
use Rattle.dm_blocks.proofs.list.catch_up.Given as goal

abbrev pub invariant-walk : goal.invariant-walk
invariant-walk l = record {
  left : (K : List Header) × AreLeft l.space.memory l.moved K;
  passes : (F : List Header) → IsCursor l.space.memory F l.fn.cursor l.segment →
      IsCursor l.space.memory F l.moved l.segment;
}

abbrev pub decreases-walk : goal.decreases-walk
decreases-walk l = steps_left l.moved
