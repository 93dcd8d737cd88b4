use Rattle.std.proofs.Common.{refl, ap, ◌∙◌}
use Rattle.dm_gdb.specs.Servers.{Served, continues}
use Rattle.dm_gdb.proofs.Replying.{replies_as, gone_as, arrival_told}
use Rattle.dm_gdb.proofs.server.Server.continue_to.Goals as goal

pub returns : goal.returns
returns c =
    let told = arrival_told _ _ _ _ _ _ c.arrival_reply-reply.ensures
    (c.breaks.ensures ∙ ap (λ (s : Served). s.points.breaks) c.self.view_is
    ∙ ap (λ (s : Served). s.points.breaks) c.go-pause.ensures.same)
    (c.machine.ensures ∙ ap (λ (s : Served). s.history.machine) c.self.view_is) in
    replies_as _ _ _ _ _ _ _ _ (continues c.go-pause.result c.go-pause.new.self.history.machine c.go-pause.ensures.goes)
    refl (c.noted.ensures.reply ∙ told) (gone_as c.args.self.now _ _ _ _ _ c.go-pause.ensures.same
    c.noted.ensures.after told)
