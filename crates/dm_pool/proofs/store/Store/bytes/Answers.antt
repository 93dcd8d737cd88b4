use Rattle.std.proofs.Common.{◌*◌, None, [], get_or, sym, ap, ◌∙◌, inl, inr, arith}
use Rattle.dm_pool.specs.Stored.{Stored}
use Rattle.dm_pool.specs.inner.Stored.{pool_part}
use Rattle.dm_pool.proofs.Blocks.{content_of}
use Rattle.dm_region.proofs.Parts.{part_in}
use Rattle.dm_pool.proofs.Stored.{is_used}
use Rattle.dm_pool.proofs.store.Store.bytes.Goals as goal

pub place_of-place-requires : goal.place_of-place-requires
place_of-place-requires c = (
  c.requires.1.0,
  ap (λ (s : Stored). get_or s.blocks.places c.args.block None) c.self.view_is ∙ c.requires.1.1,
)

pub part-requires : goal.part-requires
part-requires c =
    let b = c.place_of-place.result in let k = c.self.invariant in
    let used = k.used (is_used c.self.inside.in_use c.self.inside.region.bytes c.self.inside.table c.args.block b
    k.store c.place_of-place.ensures.place) in
    (omega (arith, k.store.whole, c.place_of-place.ensures.within), inr (inl (omega (arith, used))))

pub returns : goal.returns
returns c =
    let xs = c.self.inside.region.bytes in let t = c.self.inside.table in let b = c.place_of-place.result in
    c.part.ensures
    ∙ sym (part_in xs 0x310000 (t.units * 1024) (b.base * 1024) (b.units * 1024) (omega (
      arith,
      c.place_of-place.ensures.within,
    )))
    ∙ sym (content_of t.places c.args.block b (pool_part xs t.units) c.place_of-place.ensures.place)
    ∙ ap (λ (s : Stored). get_or s.blocks.contents c.args.block []) c.self.view_is
