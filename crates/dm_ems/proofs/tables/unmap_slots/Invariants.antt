use Rattle.std.proofs.Common.{◌≡◌, ◌++◌, map, take, drop}
use Rattle.dm_ems.specs.Tables.{unmapped_slot}
use Rattle.dm_ems.proofs.tables.unmap_slots.Given as goal

abbrev pub invariant-loop-at : goal.invariant-loop-at
invariant-loop-at l = l.slots ≡ map (unmapped_slot l.block) (take l.at l.initial.slots) ++ drop l.at l.initial.slots
