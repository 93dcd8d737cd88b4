use Rattle.std.proofs.Common.{◌≤◌, ◌-◌}
use Rattle.dm_space.proofs.moves.Meets.{AreApart}
use Rattle.dm_space.proofs.moves.overlaps.overlap.Given as goal

abbrev pub invariant-loop-done : goal.invariant-loop-done
invariant-loop-done l = record { within : l.done ≤ l.len; apart : AreApart l.space.memory l.from l.to l.done l.len }

abbrev pub decreases-loop-done : goal.decreases-loop-done
decreases-loop-done l = l.len - l.done
