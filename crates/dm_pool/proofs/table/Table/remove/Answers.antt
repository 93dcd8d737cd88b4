use Rattle.dm_pool.proofs.Coming.{go_based}
use Rattle.dm_pool.proofs.Layouts.{go_laid}
use Rattle.dm_pool.proofs.table.Table.remove.Goals as goal

pub invariant_of-self : goal.invariant_of-self
invariant_of-self c =
    record {
      laid = go_laid c.self.inside.units c.self.inside.places c.args.slot c.requires.0 c.self.invariant.laid;
      based = go_based c.self.inside.places c.args.slot c.self.invariant.based;
      order = c.order_out.ensures;
    }
