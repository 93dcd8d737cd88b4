use Rattle.std.proofs.Common.{length, ◌+◌, sym, ap, ◌∙◌, subst, arith}
use Rattle.dm_region.specs.Parts.{part, with_part}
use Rattle.dm_pool.specs.Parts.{part_copied}
use Rattle.dm_pool.specs.Stored.{Stored}
use Rattle.dm_region.specs.Holes.{Holed}
use Rattle.dm_pool.specs.inner.Stored.{IsKept, stored}
use Rattle.dm_pool.proofs.Stored.{up_kept, with_kept}
use Rattle.dm_pool.proofs.Copied.{laid_out, span_fits, span_outside, copied_store, copied_stored, within_span}
use Rattle.dm_pool.proofs.store.Store.copy.Goals as goal

pub start_of-requires : goal.start_of-requires
start_of-requires c = laid_out c.self.inside.table c.self.inside.region.bytes c.args.self.now c.args.source
    c.self.view_is c.requires.source.0

pub start_of-requires-2 : goal.start_of-requires-2
start_of-requires-2 c = laid_out c.self.inside.table c.self.inside.region.bytes c.args.self.now c.args.destination
    c.self.view_is c.requires.destination.0

pub overflow_add-from : goal.overflow_add-from
overflow_add-from c =
    let s = c.self.inside in
    let from = within_span s.region.bytes s.table c.args.self.now c.args.source c.start_of.result
    c.start_of.ensures.span.0 (c.args.from + c.args.len) c.self.invariant.store c.recall.ensures.laid c.self.view_is
    c.start_of.ensures.span.1 c.requires.source.1 in
    let room = span_fits s.region.bytes s.table s.in_use c.self.invariant.store c.recall.ensures.laid c.args.source
    c.start_of.result c.start_of.ensures.span.0 c.start_of.ensures.span.1 in
    record { fits = omega (arith, from, room, c.self.invariant.store.whole, c.recall.ensures.laid.small) }

pub overflow_add-to : goal.overflow_add-to
overflow_add-to c =
    let s = c.self.inside in
    let to = within_span s.region.bytes s.table c.args.self.now c.args.destination c.start_of-2.result
    c.start_of-2.ensures.span.0 (c.args.to + c.args.len) c.self.invariant.store c.recall.ensures.laid c.self.view_is
    c.start_of-2.ensures.span.1 c.requires.destination.1 in
    let room = span_fits s.region.bytes s.table s.in_use c.self.invariant.store c.recall.ensures.laid c.args.destination
    c.start_of-2.result c.start_of-2.ensures.span.0 c.start_of-2.ensures.span.1 in
    record { fits = omega (arith, to, room, c.self.invariant.store.whole, c.recall.ensures.laid.small) }

pub overflow_add-from-2 : goal.overflow_add-from-2
overflow_add-from-2 c =
    let s = c.self.inside in
    let from = within_span s.region.bytes s.table c.args.self.now c.args.source c.start_of.result
    c.start_of.ensures.span.0 (c.args.from + c.args.len) c.self.invariant.store c.recall.ensures.laid c.self.view_is
    c.start_of.ensures.span.1 c.requires.source.1 in
    let room = span_fits s.region.bytes s.table s.in_use c.self.invariant.store c.recall.ensures.laid c.args.source
    c.start_of.result c.start_of.ensures.span.0 c.start_of.ensures.span.1 in
    record { fits = omega (arith, from, room, c.self.invariant.store.whole, c.recall.ensures.laid.small) }

pub overflow_add-to-2 : goal.overflow_add-to-2
overflow_add-to-2 c =
    let s = c.self.inside in
    let to = within_span s.region.bytes s.table c.args.self.now c.args.destination c.start_of-2.result
    c.start_of-2.ensures.span.0 (c.args.to + c.args.len) c.self.invariant.store c.recall.ensures.laid c.self.view_is
    c.start_of-2.ensures.span.1 c.requires.destination.1 in
    let room = span_fits s.region.bytes s.table s.in_use c.self.invariant.store c.recall.ensures.laid c.args.destination
    c.start_of-2.result c.start_of-2.ensures.span.0 c.start_of-2.ensures.span.1 in
    record { fits = omega (arith, to, room, c.self.invariant.store.whole, c.recall.ensures.laid.small) }

pub copy-requires-clause-source : goal.copy-requires-clause-source
copy-requires-clause-source c =
    let s = c.self.inside in
    let from = within_span s.region.bytes s.table c.args.self.now c.args.source c.start_of.result
    c.start_of.ensures.span.0 (c.args.from + c.args.len) c.self.invariant.store c.recall.ensures.laid c.self.view_is
    c.start_of.ensures.span.1 c.requires.source.1 in
    let room = span_fits s.region.bytes s.table s.in_use c.self.invariant.store c.recall.ensures.laid c.args.source
    c.start_of.result c.start_of.ensures.span.0 c.start_of.ensures.span.1 in
    let up = c.fill_up.ensures in let k = c.self.invariant in (
      omega (arith, from, room, ap (λ (h : Holed). length h.bytes) up),
      span_outside s.region s.table s.in_use k c.args.source c.start_of.result c.start_of.ensures.span.0
          (c.start_of.result + c.args.from) c.args.len c.fill_up.new.self.from c.fill_up.new.self.to
          c.start_of.ensures.span.1
          (omega arith) (omega (arith, from))
          (λ below. omega (arith, ap (λ (h : Holed). h.from) up, c.below_pool.ensures.same below))
          (ap (λ (h : Holed). h.to) up),
    )

pub copy-requires-clause-destination : goal.copy-requires-clause-destination
copy-requires-clause-destination c =
    let s = c.self.inside in
    let to = within_span s.region.bytes s.table c.args.self.now c.args.destination c.start_of-2.result
    c.start_of-2.ensures.span.0 (c.args.to + c.args.len) c.self.invariant.store c.recall.ensures.laid c.self.view_is
    c.start_of-2.ensures.span.1 c.requires.destination.1 in
    let room = span_fits s.region.bytes s.table s.in_use c.self.invariant.store c.recall.ensures.laid c.args.destination
    c.start_of-2.result c.start_of-2.ensures.span.0 c.start_of-2.ensures.span.1 in
    let up = c.fill_up.ensures in let k = c.self.invariant in (
      omega (arith, to, room, ap (λ (h : Holed). length h.bytes) up),
      span_outside s.region s.table s.in_use k c.args.destination c.start_of-2.result c.start_of-2.ensures.span.0
          (c.start_of-2.result + c.args.to) c.args.len c.fill_up.new.self.from c.fill_up.new.self.to
          c.start_of-2.ensures.span.1
          (omega arith) (omega (arith, to))
          (λ below. omega (arith, ap (λ (h : Holed). h.from) up, c.below_pool-2.ensures.same below))
          (ap (λ (h : Holed). h.to) up),
    )

pub invariant_of-self : goal.invariant_of-self
invariant_of-self c =
    let s = c.self.inside in
    let from = within_span s.region.bytes s.table c.args.self.now c.args.source c.start_of.result
    c.start_of.ensures.span.0 (c.args.from + c.args.len) c.self.invariant.store c.recall.ensures.laid c.self.view_is
    c.start_of.ensures.span.1 c.requires.source.1 in
    let to = within_span s.region.bytes s.table c.args.self.now c.args.destination c.start_of-2.result
    c.start_of-2.ensures.span.0 (c.args.to + c.args.len) c.self.invariant.store c.recall.ensures.laid c.self.view_is
    c.start_of-2.ensures.span.1 c.requires.destination.1 in
    let new = c.copy.ensures ∙ ap (λ (h : Holed). record h {
      bytes = with_part h.bytes (c.start_of-2.result
          + c.args.to) c.args.len (part h.bytes (c.start_of.result + c.args.from) c.args.len);
    }) c.fill_up.ensures in
    let k = up_kept s.region s.table s.in_use _ (omega (
      arith,
      c.below_pool.ensures.below,
      c.below_pool-2.ensures.below,
    )) c.self.invariant in
    subst (λ (h : Holed). IsKept h s.table s.in_use) (sym new)
    (with_kept _ s.table s.table s.in_use _ k (copied_store s.region.bytes s.table s.in_use c.self.invariant.store
    c.recall.ensures.laid c.recall.ensures.based c.args.source c.args.destination c.start_of.result
    c.start_of-2.result c.start_of.ensures.span.0 c.start_of-2.ensures.span.0 c.args.from c.args.to c.args.len
    c.start_of.ensures.span.1 c.start_of-2.ensures.span.1 from to))

pub returns : goal.returns
returns c =
    let s = c.self.inside in
    let from = within_span s.region.bytes s.table c.args.self.now c.args.source c.start_of.result
    c.start_of.ensures.span.0 (c.args.from + c.args.len) c.self.invariant.store c.recall.ensures.laid c.self.view_is
    c.start_of.ensures.span.1 c.requires.source.1 in
    let to = within_span s.region.bytes s.table c.args.self.now c.args.destination c.start_of-2.result
    c.start_of-2.ensures.span.0 (c.args.to + c.args.len) c.self.invariant.store c.recall.ensures.laid c.self.view_is
    c.start_of-2.ensures.span.1 c.requires.destination.1 in
    let new = c.copy.ensures ∙ ap (λ (h : Holed). record h {
      bytes = with_part h.bytes (c.start_of-2.result
          + c.args.to) c.args.len (part h.bytes (c.start_of.result + c.args.from) c.args.len);
    }) c.fill_up.ensures in
    ap (λ (h : Holed). stored h.bytes s.table) new
    ∙ copied_stored s.region.bytes s.table s.in_use c.self.invariant.store c.recall.ensures.laid c.recall.ensures.based
    c.args.source c.args.destination c.start_of.result c.start_of-2.result c.start_of.ensures.span.0
    c.start_of-2.ensures.span.0 c.args.from c.args.to c.args.len c.start_of.ensures.span.1
    c.start_of-2.ensures.span.1 from to
    ∙ ap (λ (v : Stored). part_copied v c.args.source c.args.from c.args.destination c.args.to c.args.len)
    c.self.view_is
