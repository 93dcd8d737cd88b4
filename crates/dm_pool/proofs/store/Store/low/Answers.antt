use Rattle.std.proofs.Common.{◌∙◌, ap, length, inl, arith}
use Rattle.dm_pool.specs.Stored.{Stored}
use Rattle.dm_pool.proofs.Blocks.{part_length}
use Rattle.dm_pool.proofs.store.Store.low.Goals as goal

pub returns-clause-value : goal.returns-clause-value
returns-clause-value c = c.part.ensures ∙ ap (λ (s : Stored). s.low) c.self.view_is

pub returns-clause-length : goal.returns-clause-length
returns-clause-length c = ap length c.part.ensures ∙ part_length c.self.inside.region.bytes 0 _ (omega (
  arith,
  c.self.invariant.store.whole,
))

pub part-requires : goal.part-requires
part-requires c = (omega (arith, c.self.invariant.store.whole), inl c.self.invariant.low)
