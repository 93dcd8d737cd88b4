use Rattle.std.proofs.Common.{subst}
use Rattle.dm_pool.specs.inner.Order.{IsTable}
use Rattle.dm_pool.proofs.table.Table.recall.Goals as goal

pub returns : goal.returns
returns c = subst IsTable c.self.view_is c.self.invariant
