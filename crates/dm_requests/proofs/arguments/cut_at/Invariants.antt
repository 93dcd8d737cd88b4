use Rattle.std.proofs.Common.{◌≡◌, take, drop, []}
use Rattle.dm_requests.specs.Arguments.{cut_at}
use Rattle.dm_requests.proofs.arguments.cut_at.Given as goal

abbrev pub invariant-loop-i : goal.invariant-loop-i
invariant-loop-i l = cut_at l.separator (take l.i l.bytes) (drop l.i l.bytes) ≡ cut_at l.separator [] l.bytes
