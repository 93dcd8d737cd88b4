use Rattle.std.proofs.Common.{◌≡◌, true, subst, inl, inr, ◌*◌, None, [], get_or, refl, sym, ap, ◌∙◌, arith}
use Rattle.dm_pool.specs.Blocks.{with_content}
use Rattle.dm_pool.specs.Stored.{Stored, refit}
use Rattle.dm_pool.specs.inner.Stored.{IsStore, pool_part}
use Rattle.dm_pool.proofs.Blocks.{content_of}
use Rattle.dm_region.proofs.Parts.{part_in}
use Rattle.dm_pool.proofs.Stored.{is_used, with_kept, block_store, block_stored}
use Rattle.dm_pool.proofs.store.Store.bytes_mut.Goals as goal

pub place_of-place-requires : goal.place_of-place-requires
place_of-place-requires c = (
  c.requires.1.0,
  ap (λ (s : Stored). get_or s.blocks.places c.args.block None) c.self.view_is ∙ c.requires.1.1,
)

pub part_mut-requires : goal.part_mut-requires
part_mut-requires c =
    let b = c.place_of-place.result in let k = c.self.invariant in
    let used = k.used (is_used c.self.inside.in_use c.self.inside.region.bytes c.self.inside.table c.args.block b
    k.store c.place_of-place.ensures.place) in
    (omega (arith, k.store.whole, c.place_of-place.ensures.within), inr (inl (omega (arith, used))))

pub invariant_of-self-lent : goal.invariant_of-self-lent
invariant_of-self-lent c = λ w.
    let s = c.self.inside in let k = c.self.invariant in let b = c.place_of-place.result in
    let used : s.in_use ≡ true = is_used s.in_use s.region.bytes s.table c.args.block b k.store
    c.place_of-place.ensures.place in
    let new = block_store s.region.bytes s.table c.args.block b w (subst (IsStore s.region.bytes s.table) used k.store)
    c.recall.ensures.laid c.recall.ensures.based c.place_of-place.ensures.place in
    with_kept s.region s.table s.table s.in_use _ k (subst (IsStore _ s.table) (sym used) new)

pub returns : goal.returns
returns c =
    let xs = c.self.inside.region.bytes in let t = c.self.inside.table in let b = c.place_of-place.result in let k =
    c.self.invariant in
    let used : c.self.inside.in_use ≡ true = is_used c.self.inside.in_use xs t c.args.block b k.store
    c.place_of-place.ensures.place in
    let s : IsStore xs t true = subst (IsStore xs t) used k.store in (
      (
        refl,
        λ w.
            block_stored xs t c.args.block b w s c.recall.ensures.laid c.recall.ensures.based
            c.place_of-place.ensures.place
            ∙ ap (λ (s : Stored). record s {
              blocks = with_content s.blocks c.args.block (refit
                  (get_or s.blocks.contents c.args.block []) w);
            }) c.self.view_is,
      ),
      record {
        writes_back = tt;
        value = c.part_mut.ensures.value
            ∙ sym (part_in xs 0x310000 (t.units * 1024) (b.base * 1024) (b.units * 1024) (omega (
              arith,
              c.place_of-place.ensures.within,
            )))
            ∙ sym (content_of t.places c.args.block b (pool_part xs t.units) c.place_of-place.ensures.place)
            ∙ ap (λ (s : Stored). get_or s.blocks.contents c.args.block []) c.self.view_is;
      },
    )
