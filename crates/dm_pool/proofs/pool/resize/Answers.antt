use Rattle.std.proofs.Common.{◌≡◌, ◌*◌, ◌<◌, ◌++◌, ℕ, length, None, set, Some, sym, ap, subst, ◌∙◌, refl, length-append, length-take, arith}
use Rattle.std.proofs.lemmas.List.{length-replicate, get_or-set_other}
use Rattle.dm_pool.specs.declared.extent.Extent.{Extent}
use Rattle.dm_pool.specs.Blocks.{Blocks, zeros, fitted, content, contents_of}
use Rattle.dm_pool.proofs.Blocks.{resize_is, clear_apart}
use Rattle.dm_pool.proofs.Layouts.{pool_of}
use Rattle.dm_pool.proofs.Takes.{laid_blocks, set_again}
use Rattle.dm_pool.proofs.pool.resize.Goals as goal

pub returns-clause-resized : goal.returns-clause-resized
returns-clause-resized c =
    let t = c.args.table.now in let xs = c.args.bytes.now in let k = c.args.slot in let u = c.args.units in let old =
    c.place.result in
    let b : Extent = record { base = c.in-Some.base; units = u } in let free = c.in-Some.ensures.free in let laid =
    c.recall.ensures.laid in let new = c.retell.new.table in
    let short : k < length t.places = omega (arith, c.requires.live.0, laid.count) in
    let ws = fitted (content xs (Some old)) u in
    let long : length ws ≡ u * 1024 = omega (
      arith,
      length-take (u * 1024) (content xs (Some old) ++ zeros u),
      length-append (content xs (Some old)) (zeros u),
      length-replicate {A = ℕ} (u * 1024) 0,
    ) in
    let places = c.retell.ensures.places ∙ c.put.ensures.places ∙ ap (λ ps. set ps k (Some b)) c.remove.ensures.places
    ∙ set_again t.places k None (Some b) in
    let units = c.retell.ensures.units ∙ c.put.ensures.units ∙ c.remove.ensures.units in
    let contents = subst (λ ps. contents_of ps c.retell.new.bytes ≡ contents_of ps c.move_block.new.bytes)
    (sym c.retell.ensures.places) c.retell.ensures.contents in
    resize_is t.units t.places xs (pool_of t.units t.places xs laid c.requires.told.whole) k b short free.0
    (λ i d ne e. clear_apart (set t.places k None) b.base u free.1 i d (get_or-set_other t.places k i None None ne
    ∙ e)) ws long old c.place.ensures (sym (c.in-Some.ensures.base old c.place.ensures)) refl
    ∙ ap (λ (s : Blocks). Some s) (sym (laid_blocks new t.units (set t.places k (Some b)) c.retell.new.bytes _ units
    places (contents ∙ ap (contents_of new.places) c.move_block.ensures)))
