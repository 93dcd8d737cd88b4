use Rattle.std.proofs.Common.{ap, length, arith}
use Rattle.dm_pool.proofs.Blocks.{part_length}
use Rattle.dm_pool.proofs.Spots.{word_outside, word_bytes}
use Rattle.dm_pool.proofs.store.Store.word.Goals as goal

pub part-bytes-requires : goal.part-bytes-requires
part-bytes-requires c =
    let s = c.self.inside in
    word_outside s.region s.table s.in_use c.args.self.now c.self.invariant c.recall.ensures.laid c.self.view_is
    c.requires.low.0 c.requires.low.1 c.requires.high.0 c.requires.high.1 c.args.spot c.requires.low.2
    c.requires.high.2

pub bounds-bytes-0 : goal.bounds-bytes-0
bounds-bytes-0 c =
    let s = c.self.inside in
    let fits = word_outside s.region s.table s.in_use c.args.self.now c.self.invariant c.recall.ensures.laid
    c.self.view_is c.requires.low.0 c.requires.low.1 c.requires.high.0 c.requires.high.1 c.args.spot
    c.requires.low.2 c.requires.high.2 in
    omega (arith, ap length c.part-bytes.ensures, part_length s.region.bytes c.args.spot 2 fits.0)

pub bounds-bytes-1 : goal.bounds-bytes-1
bounds-bytes-1 c =
    let s = c.self.inside in
    let fits = word_outside s.region s.table s.in_use c.args.self.now c.self.invariant c.recall.ensures.laid
    c.self.view_is c.requires.low.0 c.requires.low.1 c.requires.high.0 c.requires.high.1 c.args.spot
    c.requires.low.2 c.requires.high.2 in
    omega (arith, ap length c.part-bytes.ensures, part_length s.region.bytes c.args.spot 2 fits.0)

pub returns : goal.returns
returns c = λ low j high k is next.
    let s = c.self.inside in
    let bytes = word_bytes s.region s.table s.in_use c.args.self.now c.self.invariant c.recall.ensures.laid
    c.self.view_is low j high k c.args.spot c.part-bytes.result.now is next c.part-bytes.ensures in
    omega (arith, c.from_le_bytes.ensures, bytes.0, bytes.1)
