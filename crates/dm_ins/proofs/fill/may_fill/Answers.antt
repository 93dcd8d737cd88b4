use Rattle.dm_ins.specs.inner.Search.{bytes_of}
use Rattle.dm_ins.proofs.Walks.{first_none, second_none}
use Rattle.dm_ins.proofs.fill.may_fill.Goals as goal

pub returns-then-may_be : goal.returns-then-may_be
unfolding bytes_of
returns-then-may_be c = λ f. second_none _ _ _ (c.may_be-then-may_be.ensures f)

pub returns-else-may_be : goal.returns-else-may_be
unfolding bytes_of
returns-else-may_be c = λ f. first_none _ _ (c.may_be.ensures f)
