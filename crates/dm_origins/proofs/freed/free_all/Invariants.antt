use Rattle.std.proofs.Common.{◌≤◌, length}
use Rattle.dm_origins.proofs.Freeing.{Freed}
use Rattle.dm_origins.proofs.freed.free_all.Given as goal

abbrev pub invariant-loop-block : goal.invariant-loop-block
invariant-loop-block l = record {
  near : l.near ≤ length l.old;
  freed : Freed l.old l.new l.block-index l.origin l.initial.freed l.freed;
}
