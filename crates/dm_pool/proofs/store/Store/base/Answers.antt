use Rattle.std.proofs.Common.{None, get_or, sym, ap, ◌∙◌}
use Rattle.dm_pool.specs.Stored.{Stored}
use Rattle.dm_pool.proofs.store.Store.base.Goals as goal

pub place_of-requires : goal.place_of-requires
place_of-requires c = (
  c.requires.1.0,
  ap (λ (s : Stored). get_or s.blocks.places c.args.block None) c.self.view_is
      ∙ c.requires.1.1,
)

pub returns-clause-place : goal.returns-clause-place
returns-clause-place c = (
  c.place_of.result.units,
  ap (λ (s : Stored). get_or s.blocks.places c.args.block None) (sym c.self.view_is) ∙ c.place_of.ensures.place,
)
