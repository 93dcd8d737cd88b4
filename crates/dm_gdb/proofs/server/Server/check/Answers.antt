use Rattle.std.proofs.Common.{◌∙◌, ap, subst}
use Rattle.dm_services.specs.state.State.{State}
use Rattle.dm_gdb.specs.declared.replies.Reply.TheVariants as reply
use Rattle.dm_gdb.specs.inner.Checking.{LeadsAhead}
use Rattle.dm_gdb.proofs.Ahead.{checked_as, short_as}
use Rattle.dm_gdb.proofs.server.Server.check.Goals as goal

pub returns-in-Memory-clause-ok : goal.returns-in-Memory-clause-ok
returns-in-Memory-clause-ok c =
    let steps = c.in_ok-ahead.ahead.steps in
    let text = c.in_ok-ahead.ahead.text.items in
    let ahead = subst (λ (m : State). LeadsAhead m steps text) c.in_ok-machine.ensures.copy c.in_ok-ahead.ensures in
    λ most. short_as _ c.args.self.now c.run.new.self most c.args.line.now steps text c.run.result c.self.view_is
    c.requires c.run.ensures.same ahead c.run.ensures.run c.in-Memory.is

pub returns-clause-ok : goal.returns-clause-ok
returns-clause-ok c =
    let steps = c.in_ok-ahead.ahead.steps in
    let text = c.in_ok-ahead.ahead.text.items in
    let ahead = subst (λ (m : State). LeadsAhead m steps text) c.in_ok-machine.ensures.copy c.in_ok-ahead.ensures in
    λ most. checked_as _ c.args.self.now c.run.new.self most c.args.line.now steps text c.run.result _ c.self.view_is
    c.requires c.run.ensures.same ahead c.run.ensures.run c.in_default.not-Memory (ap reply.Bytes c.new.ensures)
