use Rattle.std.proofs.Common.{arith}
use Rattle.std.proofs.lemmas.List.Edits.{map_over_more}
use Rattle.dm_ems.specs.Tables.{unmapped_slot}
use Rattle.dm_ems.proofs.tables.unmap_slots.Goals as goal

pub loop-at-preserved : goal.loop-at-preserved
loop-at-preserved c =
    rw c.unmapped_slot.ensures (map_over_more (unmapped_slot c.args.block) c.args.slots.now c.loop-at.slots c.loop-at.at
    c.index-slots-at.result (omega arith) c.loop-at.invariant c.index-slots-at.is)
