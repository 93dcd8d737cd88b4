use Rattle.std.proofs.Common.{◌≡◌, ◌≤◌, ◌-◌}
use Rattle.dm_space.specs.Copies.{copied_in}
use Rattle.dm_space.proofs.space.Space.copy_in.Given as goal

abbrev pub invariant-loop-done : goal.invariant-loop-done
invariant-loop-done l = record { within : l.done ≤ l.len; copied : l.self ≡ copied_in l.fn.self l.linear l.at l.done }

abbrev pub decreases-loop-done : goal.decreases-loop-done
decreases-loop-done l = l.len - l.done
