use Rattle.std.proofs.Common.{◌+◌, ◌-◌, ◌≤◌, not}
use Rattle.std.specs.Prelude.{◌&&◌}
use Rattle.dm_origins.specs.Origins.{is_free_in}
use Rattle.dm_origins.specs.inner.Freed.{within, Frees}
use Rattle.dm_origins.proofs.freed.free_block.Given as goal

abbrev pub invariant-loop-at : goal.invariant-loop-at
invariant-loop-at l = record {
  from : l.first ≤ l.at;
  to : l.at ≤ l.last + 1;
  frees : Frees (λ p. within l.first l.at p && not (is_free_in l.old p)) l.origin l.initial.freed l.freed;
}

abbrev pub decreases-loop-at : goal.decreases-loop-at
decreases-loop-at l = l.last + 1 - l.at
