use Rattle.std.proofs.Common.{◌≡◌, None, sym, ◌∙◌, ap}
use Rattle.std.specs.Prelude.{position}
use Rattle.dm_debug.specs.Points.{is_point}
use Rattle.dm_debug.proofs.Distinct.{pushed}
use Rattle.dm_debug.proofs.points.Points.set.Goals as goal

pub invariant_of-self : goal.invariant_of-self
invariant_of-self c =
    let none : position (is_point c.args.address) c.self.inside.list.items ≡ None =
    sym (c.in-None.ensures.first ∙ ap (position (is_point c.args.address)) c.as_slice.ensures.value) in
    rw (c.push.ensures.items, c.point_at.ensures) (pushed c.self.inside.list.items c.args.address c.self.invariant none)
