use Rattle.std.proofs.Common.{◌≡◌, ◌++◌}
use Rattle.dm_origins.specs.leaks.Leaks.{of_each, block_kept}
use Rattle.dm_origins.proofs.leaks.leaks.put_blocks.Given as goal

abbrev pub invariant-loop-before : goal.invariant-loop-before
invariant-loop-before l = l.out.items ≡ l.initial.out.items ++ of_each (block_kept l.resident l.xms) l.before
