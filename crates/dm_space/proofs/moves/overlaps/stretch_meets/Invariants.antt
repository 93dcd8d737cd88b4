use Rattle.std.proofs.Common.{◌≤◌, ◌-◌}
use Rattle.dm_space.proofs.moves.Meets.{IsStretchApart}
use Rattle.dm_space.proofs.moves.overlaps.stretch_meets.Given as goal

abbrev pub invariant-loop-done : goal.invariant-loop-done
invariant-loop-done l = record { within : l.done ≤ l.len; apart : IsStretchApart l.space.memory l.p l.span l.n l.done }

abbrev pub decreases-loop-done : goal.decreases-loop-done
decreases-loop-done l = l.len - l.done
