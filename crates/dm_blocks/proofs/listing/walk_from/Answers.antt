use Rattle.std.proofs.Common.{[], refl}
use Rattle.dm_blocks.proofs.Cursors.{cursor-none}
use Rattle.dm_blocks.proofs.listing.walk_from.Goals as goal

pub invariant_of-result : goal.invariant_of-result
invariant_of-result c =
    let u = c.requires in
    ([], refl, (u.0, u.1.leads, u.1.unoccupied _ (c.new.ensures _), cursor-none _ _))
