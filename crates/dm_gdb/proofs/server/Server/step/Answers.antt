use Rattle.std.proofs.Common.{refl, ap, ◌∙◌}
use Rattle.dm_gdb.specs.Servers.{Served, steps}
use Rattle.dm_gdb.proofs.Replying.{replies_as, gone_as, step_told}
use Rattle.dm_gdb.proofs.server.Server.step.Goals as goal

pub returns : goal.returns
returns c =
    let told = step_told _ _ _ _ _ _ c.step_reply-reply.ensures
    (c.breaks.ensures ∙ ap (λ (s : Served). s.points.breaks) c.self.view_is
    ∙ ap (λ (s : Served). s.points.breaks) c.go-pause.ensures.same)
    (c.machine.ensures ∙ ap (λ (s : Served). s.history.machine) c.self.view_is) in
    λ most. replies_as _ _ _ _ _ _ _ _ (steps c.go-pause.result c.go-pause.new.self.history.machine
    c.go-pause.ensures.goes) refl (c.noted.ensures.reply
    ∙ told) (gone_as c.args.self.now _ _ _ _ _ c.go-pause.ensures.same c.noted.ensures.after told)
