use Rattle.dm_pool.specs.inner.Order.{IsCut}
use Rattle.dm_pool.proofs.WrittenGaps.{Spelling}
use Rattle.dm_pool.proofs.free_list.spell.Given as goal

abbrev pub invariant-loop-end : goal.invariant-loop-end
invariant-loop-end l = record {
  spelling : Spelling l.table.places l.table.units l.initial.bytes l.bytes l.end l.next;
  cut : IsCut l.table.places l.table.order l.rest l.end;
}

abbrev pub decreases-loop-end : goal.decreases-loop-end
decreases-loop-end l = l.end
