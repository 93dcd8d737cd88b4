use Rattle.std.proofs.Common.{ap, length, arith}
use Rattle.dm_pool.proofs.Blocks.{part_length}
use Rattle.dm_pool.proofs.Spots.{spot_outside, spot_byte}
use Rattle.dm_pool.proofs.store.Store.byte.Goals as goal

pub part-requires : goal.part-requires
part-requires c =
    let s = c.self.inside in
    spot_outside s.region s.table s.in_use c.args.self.now c.self.invariant c.recall.ensures.laid c.self.view_is
    c.requires.0 c.requires.1 c.args.spot c.requires.2

pub bounds-part-0 : goal.bounds-part-0
bounds-part-0 c =
    let s = c.self.inside in
    let fits = spot_outside s.region s.table s.in_use c.args.self.now c.self.invariant c.recall.ensures.laid
    c.self.view_is c.requires.0 c.requires.1 c.args.spot c.requires.2 in
    omega (arith, ap length c.part.ensures, part_length s.region.bytes c.args.spot 1 fits.0)

pub returns-clause-value : goal.returns-clause-value
returns-clause-value c = λ part k is.
    let s = c.self.inside in
    spot_byte s.region s.table s.in_use c.args.self.now c.self.invariant c.recall.ensures.laid c.self.view_is part k
    c.args.spot c.part.result.now is c.part.ensures

pub returns-clause-small : goal.returns-clause-small
returns-clause-small c =
    let s = c.self.inside in
    let fits = spot_outside s.region s.table s.in_use c.args.self.now c.self.invariant c.recall.ensures.laid
    c.self.view_is c.requires.0 c.requires.1 c.args.spot c.requires.2 in
    omega (arith, fits.0, c.self.invariant.store.whole, c.recall.ensures.laid.small)
