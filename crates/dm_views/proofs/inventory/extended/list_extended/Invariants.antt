use Rattle.std.proofs.Common.{◌≡◌, ◌++◌}
use Rattle.dm_views.specs.inventory.Records.{records_in_turn}
use Rattle.dm_views.specs.inventory.Extended.{extended_record}
use Rattle.dm_views.proofs.inventory.extended.list_extended.Given as goal

abbrev pub invariant-loop-before : goal.invariant-loop-before
invariant-loop-before l = l.out.items ≡ l.initial.out.items
    ++ records_in_turn (extended_record l.xms l.space.memory) l.before
