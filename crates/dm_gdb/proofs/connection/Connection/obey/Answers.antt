use Rattle.std.proofs.Common.{sym, ◌∙◌}
use Rattle.dm_gdb.proofs.Telling.{on_ok_both, killed, stopped, answered, silent}
use Rattle.dm_gdb.proofs.connection.Connection.obey.Goals as goal

pub returns-then-is_kill : goal.returns-then-is_kill
returns-then-is_kill c = silent _ _ (killed _ _ _ _ c.self.view_is (sym c.is_kill.ensures ∙ c.if-is_kill.true))

pub returns-then-stops : goal.returns-then-stops
returns-then-stops c =
    on_ok_both c.send.result _ _ _ (λ sent last. stopped _ c.args.self.now _ c.args.most c.args.request.now _ _
    c.self.view_is (sym c.is_kill.ensures ∙ c.if-is_kill.false)
    (sym c.stops.ensures ∙ c.if-stops.true) sent last) c.send.ensures.sent c.send.ensures.last

pub returns : goal.returns
returns c =
    on_ok_both c.tell.result _ _ _ (λ sent after. answered _ c.args.self.now _ _ c.args.most c.args.request.now
    c.in_ok-reply.reply _ _ c.self.view_is (sym c.is_kill.ensures ∙ c.if-is_kill.false)
    (sym c.stops.ensures ∙ c.if-stops.false) c.in_ok-reply.ensures.ok sent after) c.tell.ensures.sent
    c.tell.ensures.after
