use Rattle.std.proofs.Common.{replicate, None, sym, subst, refl}
use Rattle.dm_pool.specs.inner.Order.{IsOrder}
use Rattle.dm_pool.proofs.Layouts.{no_order, none_laid, none_based}
use Rattle.dm_pool.proofs.table.no_blocks.Goals as goal

pub invariant_of-result : goal.invariant_of-result
invariant_of-result c = record {
  laid = none_laid c.args.units 576 refl c.requires;
  based = none_based 576;
  order = subst (IsOrder (replicate 576 None)) (sym c.new.ensures) (no_order 576);
}
