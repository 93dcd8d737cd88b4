use Rattle.std.proofs.Common.{◌≡◌}
use Rattle.dm_views.specs.Digits.{in_turn}
use Rattle.dm_target.specs.Memory.{one_byte}
use Rattle.dm_target.proofs.memory.bytes_from.Given as goal

abbrev pub invariant-loop-k : goal.invariant-loop-k
invariant-loop-k l = l.bytes.items ≡ in_turn (one_byte l.space.memory l.address) l.k
