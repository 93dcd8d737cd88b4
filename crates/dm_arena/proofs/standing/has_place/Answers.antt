use Rattle.dm_arena.proofs.Beside.{occupies-none, occupies-one}
use Rattle.dm_arena.proofs.standing.has_place.Goals as goal

pub returns-in-None : goal.returns-in-None
returns-in-None c = rw c.in-None.is (occupies-none _ _)

pub returns-in-Some : goal.returns-in-Some
returns-in-Some c = rw c.in-Some.is (occupies-one _ c.in-Some.header _ _ c.is_on.ensures)
