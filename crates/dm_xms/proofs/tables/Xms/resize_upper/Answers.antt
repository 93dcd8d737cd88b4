use Rattle.std.proofs.Common.{◌≤◌, ◌+◌, ◌-◌, ◌∙◌, sym, subst, ap, arith}
use Rattle.std.specs.Prelude.{position, slice_get}
use Rattle.dm_xms.specs.Tables.{Tables}
use Rattle.dm_xms.specs.inner.Tables.{Rise}
use Rattle.dm_xms.specs.Uppers.{begins_at, begin_or_end}
use Rattle.dm_xms.proofs.Rising.{room_behind, rise_sized}
use Rattle.dm_xms.proofs.tables.Xms.resize_upper.Goals as goal

pub overflow_sub-room : goal.overflow_sub-room
overflow_sub-room c =
    let there = ap (position (begins_at c.args.segment)) (sym c.as_slice.ensures.value) ∙ sym c.first_at.ensures.first
    ∙ c.in-Some.is in
    let room = room_behind c.self.inside.uppers.items c.args.segment c.in-Some.at c.self.invariant.uppers there in
    subst (λ z. c.args.segment ≤ z) (sym c.end_of_room.ensures) (subst (λ (x : Tables). c.args.segment
    ≤ begin_or_end (slice_get x.uppers (c.in-Some.at + 1))) c.self.view_is room)

pub invariant_of-self : goal.invariant_of-self
invariant_of-self c =
    let there = ap (position (begins_at c.args.segment)) (sym c.as_slice.ensures.value) ∙ sym c.first_at.ensures.first
    ∙ c.in-Some.is in
    let fits = subst (λ (x : Tables). c.max-paragraphs.result ≤ begin_or_end (slice_get x.uppers (c.in-Some.at + 1))
    - c.args.segment) (sym c.self.view_is) (subst (λ z. c.max-paragraphs.result
    ≤ z - c.args.segment) c.end_of_room.ensures c.if-room-paragraphs.false) in
    record {
      handles = c.self.invariant.handles;
      local = c.self.invariant.local;
      uppers = subst (Rise 0xD000) (sym c.set_at.ensures) (rise_sized c.self.inside.uppers.items c.args.segment
          c.in-Some.at c.max-paragraphs.result c.self.invariant.uppers there (omega (
            arith,
            c.max-paragraphs.ensures,
          )) fits);
    }
