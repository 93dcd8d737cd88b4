use Rattle.std.proofs.Common.{◌≡◌, ◌++◌}
use Rattle.dm_origins.specs.leaks.Leaks.{of_each, handle_kept}
use Rattle.dm_origins.proofs.leaks.leaks.put_handles.Given as goal

abbrev pub invariant-loop-handle : goal.invariant-loop-handle
invariant-loop-handle l = l.out.items ≡ l.initial.out.items ++ of_each (handle_kept l.resident l.ems) l.handle
