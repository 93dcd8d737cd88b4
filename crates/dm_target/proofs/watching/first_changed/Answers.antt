use Rattle.std.proofs.Common.{◌∙◌}
use Rattle.dm_requests.specs.declared.request.WatchedAccess.TheVariants.{Execute}
use Rattle.dm_requests.specs.declared.request.Point.{Point}
use Rattle.dm_target.proofs.Watched.{cut_next, changed_here, changed_later}
use Rattle.dm_target.proofs.watching.first_changed.Goals as goal

abbrev none : Point
none = record { access = Execute; address = 0; length = 0 }

pub split_at-requires : goal.split_at-requires
split_at-requires c =
    let m = c.requires.0 in
    let x = c.loop-point.invariant m c.requires.1 in
    (cut_next m c.args.watches.now c.loop-point.point-index none c.loop-point.rest.now c.bytes_there.result
    c.loop-point-test.true c.bytes_there.ensures.is x.0).few

pub returns-then-is_changed : goal.returns-then-is_changed
returns-then-is_changed c m e =
    let x = c.loop-point.invariant m e in
    let cut = cut_next m c.args.watches.now c.loop-point.point-index none c.loop-point.rest.now c.bytes_there.result
    c.loop-point-test.true c.bytes_there.ensures.is x.0 in
    changed_here m c.args.space.now.memory c.args.watches.now c.loop-point.point-index none c.is_changed.result
    c.loop-point-test.true (c.is_changed.ensures m (c.split_at.ensures.front ∙ cut.mine)) c.if-is_changed.true x.1

pub loop-point-preserved : goal.loop-point-preserved
loop-point-preserved c m e =
    let x = c.loop-point.invariant m e in
    let cut = cut_next m c.args.watches.now c.loop-point.point-index none c.loop-point.rest.now c.bytes_there.result
    c.loop-point-test.true c.bytes_there.ensures.is x.0 in (
      c.split_at.ensures.back ∙ cut.others,
      changed_later m c.args.space.now.memory c.args.watches.now c.loop-point.point-index none c.is_changed.result
          c.loop-point-test.true (c.is_changed.ensures m (c.split_at.ensures.front ∙ cut.mine)) c.if-is_changed.false
          x.1,
    )
