use Rattle.std.proofs.Common.{◌≡◌, ◌*◌, ◌<◌, length, set, Some, sym, ap, subst, ◌∙◌, refl, arith}
use Rattle.std.proofs.lemmas.List.{length-replicate}
use Rattle.dm_pool.specs.declared.extent.Extent.{Extent}
use Rattle.dm_pool.specs.Blocks.{Blocks, zeros, contents_of}
use Rattle.dm_pool.proofs.Blocks.{take_is, clear_apart}
use Rattle.dm_pool.proofs.Layouts.{pool_of}
use Rattle.dm_pool.proofs.Takes.{laid_blocks}
use Rattle.dm_pool.proofs.pool.take.Goals as goal

pub clear-requires : goal.clear-requires
clear-requires c =
    let free = c.in_ok-base.ensures.free in let small = c.recall.ensures.laid.small in
    (omega (arith, free.0, c.requires.whole), omega (arith, free.0, small))

pub returns-clause-taken : goal.returns-clause-taken
returns-clause-taken c =
    let t = c.args.table.now in let xs = c.args.bytes.now in let k = c.in_ok-slot.slot in let u =
    c.args.units in let b : Extent = record { base = c.in_ok-base.base; units = u } in
    let free = c.in_ok-base.ensures.free in let laid = c.recall.ensures.laid in let new = c.retell.new.table in
    let short : k < length t.places = omega (arith, c.in_ok-slot.ensures.vacant.0, laid.count) in
    let places = c.retell.ensures.places ∙ c.put.ensures.places in
    let units = c.retell.ensures.units ∙ c.put.ensures.units in
    let contents = subst (λ ps. contents_of ps c.retell.new.bytes ≡ contents_of ps c.clear.new.bytes)
    (sym c.retell.ensures.places) c.retell.ensures.contents in
    take_is t.units t.places xs (pool_of t.units t.places xs laid c.requires.whole) k b short free.0
    (λ i d ne e. clear_apart t.places b.base u free.1 i d e) (zeros u) (length-replicate (u * 1024) 0)
    (sym c.in_ok-slot.ensures.first) (sym c.in_ok-base.ensures.lowest) refl
    ∙ ap (λ (s : Blocks). Some (k, s)) (sym (laid_blocks new t.units (set t.places k (Some b)) c.retell.new.bytes _
    units places (contents ∙ ap (contents_of new.places) c.clear.ensures)))
