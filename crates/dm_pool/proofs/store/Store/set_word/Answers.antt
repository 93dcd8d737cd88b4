use Rattle.std.proofs.Common.{◌%◌, ◌/◌, ap, length, arith}
use Rattle.std.proofs.lemmas.List.{length-set}
use Rattle.dm_pool.proofs.Blocks.{part_length}
use Rattle.dm_pool.proofs.Spots.{word_outside, word_store, word_stored}
use Rattle.dm_pool.proofs.Stored.{with_kept}
use Rattle.dm_pool.proofs.store.Store.set_word.Goals as goal

pub part_mut-bytes-requires : goal.part_mut-bytes-requires
part_mut-bytes-requires c =
    let s = c.self.inside in
    word_outside s.region s.table s.in_use c.args.self.now c.self.invariant c.recall.ensures.laid c.self.view_is
    c.requires.low.0 c.requires.low.1 c.requires.high.0 c.requires.high.1 c.args.spot c.requires.low.2
    c.requires.high.2

pub bounds-bytes-0 : goal.bounds-bytes-0
bounds-bytes-0 c =
    let s = c.self.inside in
    let fits = word_outside s.region s.table s.in_use c.args.self.now c.self.invariant c.recall.ensures.laid
    c.self.view_is c.requires.low.0 c.requires.low.1 c.requires.high.0 c.requires.high.1 c.args.spot
    c.requires.low.2 c.requires.high.2 in
    omega (arith, ap length c.part_mut-bytes.ensures.value, part_length s.region.bytes c.args.spot 2 fits.0)

pub bounds-bytes-1 : goal.bounds-bytes-1
bounds-bytes-1 c =
    let s = c.self.inside in
    let fits = word_outside s.region s.table s.in_use c.args.self.now c.self.invariant c.recall.ensures.laid
    c.self.view_is c.requires.low.0 c.requires.low.1 c.requires.high.0 c.requires.high.1 c.args.spot
    c.requires.low.2 c.requires.high.2 in
    omega (
      arith,
      length-set c.part_mut-bytes.result.now 0 (c.args.value % 256),
      ap length c.part_mut-bytes.ensures.value,
      part_length s.region.bytes c.args.spot 2 fits.0,
    )

pub invariant_of-self : goal.invariant_of-self
invariant_of-self c =
    let s = c.self.inside in
    with_kept s.region s.table s.table s.in_use _ c.self.invariant
    (word_store s.region s.table s.in_use c.args.self.now c.self.invariant c.recall.ensures.laid c.self.view_is
    c.recall.ensures.based c.requires.low.0 c.requires.low.1 c.requires.high.0 c.requires.high.1 c.args.spot
    (c.args.value % 256) (c.args.value / 256) c.requires.low.2 c.requires.high.2 c.part_mut-bytes.result.now
    c.part_mut-bytes.ensures.value)

pub returns : goal.returns
returns c = λ low j high k is next.
    let s = c.self.inside in
    word_stored s.region s.table s.in_use c.args.self.now c.self.invariant c.recall.ensures.laid c.self.view_is
    c.recall.ensures.based low j high k c.args.spot (c.args.value % 256) (c.args.value / 256) is next
    c.part_mut-bytes.result.now c.part_mut-bytes.ensures.value
