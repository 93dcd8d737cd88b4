use Rattle.std.proofs.Common.{◌≡◌, ◌++◌}
use Rattle.dm_origins.specs.leaks.Leaks.{of_each, window_kept}
use Rattle.dm_origins.proofs.leaks.leaks.put_windows.Given as goal

abbrev pub invariant-loop-window : goal.invariant-loop-window
invariant-loop-window l = l.out.items ≡ l.initial.out.items ++ of_each (window_kept l.resident l.space.memory) l.window
