use Rattle.std.proofs.Common.{◌≡◌, ◌<◌, Some, length, sym, ◌∙◌, ap, subst, List}
use Rattle.std.specs.Prelude.{position, false}
use Rattle.dm_machine.specs.declared.until.Breakpoint.{Breakpoint}
use Rattle.dm_debug.specs.Points.{is_point, is_set}
use Rattle.dm_debug.proofs.Distinct.{removed, gone_from}
use Rattle.dm_debug.proofs.points.Points.clear.Goals as goal

pub invariant_of-self : goal.invariant_of-self
invariant_of-self c =
    let within : c.in-Some.at < length c.self.inside.list.items =
    subst (λ (ps : List Breakpoint). c.in-Some.at < length ps) c.as_slice.ensures.value c.in-Some.ensures.there in
    rw c.remove.ensures.items (removed c.self.inside.list.items c.in-Some.at within c.self.invariant)

pub returns-in-Some-clause-gone : goal.returns-in-Some-clause-gone
returns-in-Some-clause-gone c =
    let at : position (is_point c.args.address) c.self.inside.list.items ≡ Some c.in-Some.at =
    sym (c.in-Some.ensures.first ∙ ap (position (is_point c.args.address)) c.as_slice.ensures.value) in
    ap (λ ps. is_set ps c.args.address) c.remove.ensures.items ∙ gone_from c.self.inside.list.items c.args.address
    (Some c.in-Some.at) c.self.invariant at
