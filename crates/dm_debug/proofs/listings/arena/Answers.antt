use Rattle.dm_debug.proofs.listings.arena.Goals as goal

pub returns : goal.returns
returns c = rw c.upper.ensures at (rw c.space.ensures at c.put_arena.ensures)
