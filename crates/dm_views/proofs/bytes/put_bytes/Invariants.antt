use Rattle.std.proofs.Common.{◌≡◌, ◌++◌}
use Rattle.dm_views.specs.Digits.{in_turn}
use Rattle.dm_views.specs.Bytes.{line_at}
use Rattle.dm_views.proofs.bytes.put_bytes.Given as goal

abbrev pub invariant-loop-line : goal.invariant-loop-line
invariant-loop-line l = l.out.items ≡ l.initial.out.items
    ++ in_turn (line_at l.space.memory l.segment l.offset l.count) l.line
