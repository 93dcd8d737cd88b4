use Rattle.std.proofs.Common.{◌≡◌, ◌<◌, ◌+◌, ◌∙◌, sym, subst, ap, refl, arith, Option, Some, None, ℕ, List}
use Rattle.std.proofs.lemmas.Option.{none-some, same_Some}
use Rattle.std.specs.Prelude.{insert, count_by}
use Rattle.dm_xms.specs.declared.tables.Upper.{Upper}
use Rattle.dm_xms.specs.Tables.{Tables}
use Rattle.dm_xms.specs.inner.Tables.{Rise}
use Rattle.dm_xms.specs.inner.Walks.{segment_of}
use Rattle.dm_xms.specs.Uppers.{is_below, lowest_upper, inserted}
use Rattle.dm_xms.proofs.Rising.{rise_new}
use Rattle.dm_xms.proofs.tables.Xms.request_upper.Goals as goal

-- the segment that was found is that of a gap
found : (us : List Upper) (n segment : ℕ) (o : Option ℕ) → lowest_upper us n ≡ o → Some segment ≡ segment_of o → 0 < n →
    Rise 0xD000 us → Rise 0xD000 (inserted (record { segment = segment; paragraphs = n }) us)
found us n segment None e h some r = absurd (none-some segment (sym h))
found us n segment (Some p) e h some r =
    subst (λ (s : ℕ). Rise 0xD000 (inserted (record { segment = s; paragraphs = n }) us))
    (sym (same_Some segment (0xD000 + p) h)) (rise_new us n p some r e)

pub invariant_of-self : goal.invariant_of-self
invariant_of-self c =
    let view = ap (λ (x : Tables). segment_of (lowest_upper x.uppers c.max-paragraphs.result)) (sym c.self.view_is) in
    let rises = found c.self.inside.uppers.items c.max-paragraphs.result c.in-Some.segment
    (lowest_upper c.self.inside.uppers.items c.max-paragraphs.result) refl (sym c.in-Some.is
    ∙ c.lowest_upper.ensures ∙ view) (omega (arith, c.max-paragraphs.ensures)) c.self.invariant.uppers in
    let count = c.count_below-at.ensures.count ∙ ap (count_by (is_below c.in-Some.segment)) c.as_slice.ensures.value in
    let items = c.insert.ensures.items ∙ ap (λ k. insert c.self.inside.uppers.items k
    (record { segment = c.in-Some.segment; paragraphs = c.max-paragraphs.result })) count in
    record {
      handles = c.self.invariant.handles;
      local = c.self.invariant.local;
      uppers = subst (Rise 0xD000) (sym items) rises;
    }
