use Rattle.std.proofs.Common.{◌≡◌, ◌++◌}
use Rattle.dm_views.specs.Digits.{in_turn}
use Rattle.dm_views.specs.Bytes.{as_text}
use Rattle.dm_views.proofs.bytes.put_characters.Given as goal

abbrev pub invariant-loop-k : goal.invariant-loop-k
invariant-loop-k l = l.out.items ≡ l.initial.out.items ++ in_turn (as_text l.space.memory l.segment l.offset) l.k
