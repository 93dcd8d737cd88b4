use Rattle.std.proofs.Common.{◌+◌, None, get_or, sym, ap, ◌∙◌, subst, inl, inr, arith}
use Rattle.dm_pool.specs.Blocks.{moved_bytes}
use Rattle.dm_pool.specs.Stored.{Stored}
use Rattle.dm_pool.specs.inner.Stored.{IsStore, IsKept, stored}
use Rattle.dm_region.specs.Holes.{Holed}
use Rattle.dm_pool.proofs.Stored.{live_store, live_used, with_kept}
use Rattle.dm_pool.proofs.Moved.{moved_store, moved_stored, within_units}
use Rattle.dm_pool.proofs.store.Store.move_bytes.Goals as goal

pub place_of-source-requires : goal.place_of-source-requires
place_of-source-requires c = (
  c.requires.source.0.1.0,
  ap (λ (s : Stored). get_or s.blocks.places c.args.source None) c.self.view_is ∙ c.requires.source.0.1.1,
)

pub place_of-destination-requires : goal.place_of-destination-requires
place_of-destination-requires c = (
  c.requires.destination.0.1.0,
  ap (λ (s : Stored). get_or s.blocks.places c.args.destination None) c.self.view_is ∙ c.requires.destination.0.1.1,
)

pub overflow_add-from : goal.overflow_add-from
overflow_add-from c =
    let a = c.place_of-source in let h = within_units c.self.inside.region.bytes c.self.inside.table c.args.self.now
    c.args.source (c.args.from + c.args.len) a.result c.self.invariant.store c.recall.ensures.laid c.self.view_is
    a.ensures.place c.requires.source.1 in
    record { fits = omega (arith, h, a.ensures.within, a.ensures.small) }

pub overflow_add-to : goal.overflow_add-to
overflow_add-to c =
    let b = c.place_of-destination in let h = within_units c.self.inside.region.bytes c.self.inside.table
    c.args.self.now c.args.destination (c.args.to + c.args.len) b.result c.self.invariant.store
    c.recall.ensures.laid c.self.view_is b.ensures.place c.requires.destination.1 in
    record { fits = omega (arith, h, b.ensures.within, b.ensures.small) }

pub overflow_add-from-2 : goal.overflow_add-from-2
overflow_add-from-2 c =
    let a = c.place_of-source in let h = within_units c.self.inside.region.bytes c.self.inside.table c.args.self.now
    c.args.source (c.args.from + c.args.len) a.result c.self.invariant.store c.recall.ensures.laid c.self.view_is
    a.ensures.place c.requires.source.1 in
    record { fits = omega (arith, h, a.ensures.within, a.ensures.small) }

pub overflow_add-to-2 : goal.overflow_add-to-2
overflow_add-to-2 c =
    let b = c.place_of-destination in let h = within_units c.self.inside.region.bytes c.self.inside.table
    c.args.self.now c.args.destination (c.args.to + c.args.len) b.result c.self.invariant.store
    c.recall.ensures.laid c.self.view_is b.ensures.place c.requires.destination.1 in
    record { fits = omega (arith, h, b.ensures.within, b.ensures.small) }

pub copy-requires-clause-source : goal.copy-requires-clause-source
copy-requires-clause-source c =
    let a = c.place_of-source in let h = within_units c.self.inside.region.bytes c.self.inside.table c.args.self.now
    c.args.source (c.args.from + c.args.len) a.result c.self.invariant.store c.recall.ensures.laid c.self.view_is
    a.ensures.place c.requires.source.1 in (
      omega (arith, h, a.ensures.within, c.self.invariant.store.whole),
      inr (inl (omega (
        arith,
        c.self.invariant.used (live_used c.args.self.now c.self.inside.region
            c.self.inside.table c.self.inside.in_use c.args.source c.self.invariant c.self.view_is c.requires.source.0),
      ))),
    )

pub copy-requires-clause-destination : goal.copy-requires-clause-destination
copy-requires-clause-destination c =
    let b = c.place_of-destination in let h = within_units c.self.inside.region.bytes c.self.inside.table
    c.args.self.now c.args.destination (c.args.to + c.args.len) b.result c.self.invariant.store
    c.recall.ensures.laid c.self.view_is b.ensures.place c.requires.destination.1 in (
      omega (arith, h, b.ensures.within, c.self.invariant.store.whole),
      inr (inl (omega (
        arith,
        c.self.invariant.used (live_used c.args.self.now c.self.inside.region
            c.self.inside.table c.self.inside.in_use c.args.source c.self.invariant c.self.view_is c.requires.source.0),
      ))),
    )

pub invariant_of-self : goal.invariant_of-self
invariant_of-self c =
    let s = c.self.inside in let a = c.place_of-source in let b = c.place_of-destination in
    let from = within_units s.region.bytes s.table c.args.self.now c.args.source (c.args.from + c.args.len) a.result
    c.self.invariant.store c.recall.ensures.laid c.self.view_is a.ensures.place c.requires.source.1 in
    let to = within_units s.region.bytes s.table c.args.self.now c.args.destination (c.args.to + c.args.len) b.result
    c.self.invariant.store c.recall.ensures.laid c.self.view_is b.ensures.place c.requires.destination.1 in
    let used = live_used c.args.self.now s.region s.table s.in_use c.args.source c.self.invariant c.self.view_is
    c.requires.source.0 in
    subst (λ (h : Holed). IsKept h s.table s.in_use) (sym c.copy.ensures)
    (with_kept s.region s.table s.table s.in_use _ c.self.invariant (subst (IsStore _ s.table) (sym used)
    (moved_store s.region.bytes s.table c.args.source c.args.destination a.result b.result c.args.from c.args.to
    c.args.len (live_store c.args.self.now s.region s.table s.in_use c.args.source c.self.invariant c.self.view_is
    c.requires.source.0) c.recall.ensures.laid c.recall.ensures.based a.ensures.place b.ensures.place from to)))

pub returns : goal.returns
returns c =
    let s = c.self.inside in let a = c.place_of-source in let b = c.place_of-destination in
    let from = within_units s.region.bytes s.table c.args.self.now c.args.source (c.args.from + c.args.len) a.result
    c.self.invariant.store c.recall.ensures.laid c.self.view_is a.ensures.place c.requires.source.1 in
    let to = within_units s.region.bytes s.table c.args.self.now c.args.destination (c.args.to + c.args.len) b.result
    c.self.invariant.store c.recall.ensures.laid c.self.view_is b.ensures.place c.requires.destination.1 in
    ap (λ (h : Holed). stored h.bytes s.table) c.copy.ensures
    ∙ moved_stored s.region.bytes s.table c.args.source c.args.destination a.result b.result c.args.from c.args.to
    c.args.len (live_store c.args.self.now s.region s.table s.in_use c.args.source c.self.invariant c.self.view_is
    c.requires.source.0) c.recall.ensures.laid c.recall.ensures.based a.ensures.place b.ensures.place from to
    ∙ ap (λ (v : Stored). record v {
      blocks = moved_bytes v.blocks c.args.source c.args.from c.args.destination
          c.args.to c.args.len;
    }) c.self.view_is
