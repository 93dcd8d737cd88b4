use Rattle.dm_history.specs.inner.Copies.{one}
use Rattle.dm_history.proofs.copies.make_room.Goals as goal

pub returns-then-most-len : goal.returns-then-most-len
returns-then-most-len c = one c.spare-at.result c.remove.ensures.by_index.2
