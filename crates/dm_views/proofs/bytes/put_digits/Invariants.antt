use Rattle.std.proofs.Common.{◌≡◌, ◌++◌}
use Rattle.dm_views.specs.Digits.{in_turn}
use Rattle.dm_views.specs.Bytes.{in_digits}
use Rattle.dm_views.proofs.bytes.put_digits.Given as goal

abbrev pub invariant-loop-k : goal.invariant-loop-k
invariant-loop-k l = l.out.items ≡ l.initial.out.items ++ in_turn (in_digits l.space.memory l.segment l.offset) l.k
