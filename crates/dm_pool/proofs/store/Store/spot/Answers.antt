use Rattle.std.proofs.Common.{◌+◌, ◌*◌, ◌≤◌, None, get_or, refl, sym, ap, ◌∙◌, arith}
use Rattle.dm_pool.specs.Stored.{Stored}
use Rattle.dm_pool.proofs.Moved.{within_units}
use Rattle.dm_pool.proofs.store.Store.spot.Goals as goal

pub place_of-requires : goal.place_of-requires
place_of-requires c = (
  c.requires.0.1.0,
  ap (λ (s : Stored). get_or s.blocks.places c.args.block None) c.self.view_is
      ∙ c.requires.0.1.1,
)

pub overflow_add-result-2 : goal.overflow_add-result-2
overflow_add-result-2 c =
    let b = c.place_of in
    let few : c.args.k + 1 ≤ b.result.units * 1024
    = within_units c.self.inside.region.bytes c.self.inside.table c.args.self.now c.args.block
    (c.args.k + 1) b.result c.self.invariant.store c.recall.ensures.laid c.self.view_is b.ensures.place
    (omega (arith, c.requires.1)) in
    record { fits = omega (arith, few, b.ensures.within, b.ensures.small) }

pub returns-clause-spot : goal.returns-clause-spot
returns-clause-spot c =
    let b = c.place_of in
    let few : c.args.k + 1 ≤ b.result.units * 1024
    = within_units c.self.inside.region.bytes c.self.inside.table c.args.self.now c.args.block
    (c.args.k + 1) b.result c.self.invariant.store c.recall.ensures.laid c.self.view_is b.ensures.place
    (omega (arith, c.requires.1)) in (
      b.result,
      sym (ap (λ (s : Stored). get_or s.blocks.places c.args.block None) c.self.view_is) ∙ b.ensures.place,
      omega (arith, few),
      refl,
    )

pub returns-clause-small : goal.returns-clause-small
returns-clause-small c =
    let b = c.place_of in
    let few : c.args.k + 1 ≤ b.result.units * 1024
    = within_units c.self.inside.region.bytes c.self.inside.table c.args.self.now c.args.block
    (c.args.k + 1) b.result c.self.invariant.store c.recall.ensures.laid c.self.view_is b.ensures.place
    (omega (arith, c.requires.1)) in
    omega (arith, few, b.ensures.within, b.ensures.small)
