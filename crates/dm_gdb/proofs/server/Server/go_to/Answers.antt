use Rattle.std.proofs.Common.{◌∙◌, ap}
use Rattle.dm_services.specs.state.State.{State}
use Rattle.dm_gdb.proofs.Replying.{goes_to_as}
use Rattle.dm_gdb.proofs.server.Server.go_to.Goals as goal

pub returns-clause-ok : goal.returns-clause-ok
returns-clause-ok c =
    λ most. goes_to_as _ c.args.self.now c.run-stop.new.self most c.args.line.now c.args.number c.steps-here.result
    c.run-stop.result c.stepped_reply.result c.self.view_is
    c.requires (c.steps-here.ensures ∙ ap (λ (m : State). m.steps) c.machine.ensures) c.if-number-here.false
    c.run-stop.ensures.run c.run-stop.ensures.same c.stepped_reply.ensures
