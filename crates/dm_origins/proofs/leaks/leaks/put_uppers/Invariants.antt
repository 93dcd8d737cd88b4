use Rattle.std.proofs.Common.{◌≡◌, ◌++◌}
use Rattle.dm_origins.specs.leaks.Leaks.{of_each, upper_kept}
use Rattle.dm_origins.proofs.leaks.leaks.put_uppers.Given as goal

abbrev pub invariant-loop-number : goal.invariant-loop-number
invariant-loop-number l = l.out.items ≡ l.initial.out.items ++ of_each (upper_kept l.resident l.xms) l.number
