use Rattle.std.proofs.Common.{◌≡◌, take, map}
use Rattle.dm_c.specs.calls.Statuses.{point_of}
use Rattle.dm_c.proofs.calls.values.points_of.Given as goal

-- the breakpoints of the first pairs
abbrev pub invariant-loop-point : goal.invariant-loop-point
invariant-loop-point l = l.breakpoints.items ≡ map point_of (take l.point-index l.points)
