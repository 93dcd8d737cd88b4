use Rattle.std.proofs.Common.{refl}
use Rattle.dm_origins.proofs.Freeing.{block_within}
use Rattle.dm_origins.proofs.freed.free_near.Goals as goal

pub returns-then-lies_in : goal.returns-then-lies_in
returns-then-lies_in c = block_within c.args.old.now c.args.block.now c.args.origin c.args.freed.now
    (c.if-lies_in.ensures refl)
