use Rattle.std.proofs.Common.{ap, length, arith}
use Rattle.dm_pool.proofs.Blocks.{part_length}
use Rattle.dm_pool.proofs.Spots.{spot_outside, spot_store, spot_stored}
use Rattle.dm_pool.proofs.Stored.{with_kept}
use Rattle.dm_pool.proofs.store.Store.set_byte.Goals as goal

pub part_mut-requires : goal.part_mut-requires
part_mut-requires c =
    let s = c.self.inside in
    spot_outside s.region s.table s.in_use c.args.self.now c.self.invariant c.recall.ensures.laid c.self.view_is
    c.requires.0 c.requires.1 c.args.spot c.requires.2

pub bounds-part_mut-0 : goal.bounds-part_mut-0
bounds-part_mut-0 c =
    let s = c.self.inside in
    let fits = spot_outside s.region s.table s.in_use c.args.self.now c.self.invariant c.recall.ensures.laid
    c.self.view_is c.requires.0 c.requires.1 c.args.spot c.requires.2 in
    omega (arith, ap length c.part_mut.ensures.value, part_length s.region.bytes c.args.spot 1 fits.0)

pub invariant_of-self : goal.invariant_of-self
invariant_of-self c =
    let s = c.self.inside in
    with_kept s.region s.table s.table s.in_use _ c.self.invariant
    (spot_store s.region s.table s.in_use c.args.self.now c.self.invariant c.recall.ensures.laid c.self.view_is
    c.recall.ensures.based c.requires.0 c.requires.1 c.args.spot c.args.value c.requires.2 c.part_mut.result.now
    c.part_mut.ensures.value)

pub returns-clause-written : goal.returns-clause-written
returns-clause-written c = λ part k is.
    let s = c.self.inside in
    spot_stored s.region s.table s.in_use c.args.self.now c.self.invariant c.recall.ensures.laid c.self.view_is
    c.recall.ensures.based part k c.args.spot c.args.value is c.part_mut.result.now c.part_mut.ensures.value

pub returns-clause-small : goal.returns-clause-small
returns-clause-small c =
    let s = c.self.inside in
    let fits = spot_outside s.region s.table s.in_use c.args.self.now c.self.invariant c.recall.ensures.laid
    c.self.view_is c.requires.0 c.requires.1 c.args.spot c.requires.2 in
    omega (arith, fits.0, c.self.invariant.store.whole, c.recall.ensures.laid.small)
