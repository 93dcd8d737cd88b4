use Rattle.std.proofs.Common.{◌≡◌, ◌++◌}
use Rattle.dm_views.specs.inventory.Records.{records_in_turn}
use Rattle.dm_views.specs.inventory.Pages.{handle_record}
use Rattle.dm_views.proofs.inventory.pages.list_handles.Given as goal

abbrev pub invariant-loop-number : goal.invariant-loop-number
invariant-loop-number l = l.out.items ≡ l.initial.out.items ++ records_in_turn (handle_record l.ems) l.number
