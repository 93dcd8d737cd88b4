use Rattle.std.proofs.Common.{◌≡◌, ◌++◌}
use Rattle.dm_views.specs.inventory.Records.{records_in_turn}
use Rattle.dm_views.specs.inventory.Extended.{upper_record}
use Rattle.dm_views.proofs.inventory.extended.list_uppers.Given as goal

abbrev pub invariant-loop-number : goal.invariant-loop-number
invariant-loop-number l = l.out.items ≡ l.initial.out.items ++ records_in_turn (upper_record l.xms) l.number
