use Rattle.std.proofs.Common.{◌≡◌}
use Rattle.dm_space.specs.Copies.{values}
use Rattle.dm_debug.specs.stops.Events.{byte_at}
use Rattle.dm_debug.proofs.stops.memory.range_bytes.Given as goal

abbrev pub invariant-loop-k : goal.invariant-loop-k
invariant-loop-k l = l.bytes.items ≡ values (byte_at l.space.memory) l.range.address l.k
