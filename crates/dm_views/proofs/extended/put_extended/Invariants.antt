use Rattle.std.proofs.Common.{◌≡◌, ◌++◌}
use Rattle.dm_views.specs.Digits.{in_turn}
use Rattle.dm_views.specs.Extended.{block_text, upper_text}
use Rattle.dm_views.proofs.extended.put_extended.Given as goal

abbrev pub invariant-loop-before : goal.invariant-loop-before
invariant-loop-before l = l.out.items ≡ l.initial.out.items ++ in_turn (block_text l.xms l.space.memory) l.before

abbrev pub invariant-loop-number : goal.invariant-loop-number
invariant-loop-number l = l.out.items ≡ l.initial.out.items ++ in_turn (upper_text l.xms) l.number
