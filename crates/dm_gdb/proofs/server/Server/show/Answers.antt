use Rattle.std.proofs.Common.{◌≡◌, ◌∙◌, ap, subst}
use Rattle.std.proofs.lemmas.Result.{IfOk-weaker}
use Rattle.dm_services.specs.state.State.{State}
use Rattle.dm_debug.specs.Debugged.{Debugged}
use Rattle.dm_debug.specs.Sessions.{new_session}
use Rattle.dm_gdb.specs.Servers.{Served}
use Rattle.dm_gdb.specs.inner.Monitor.{ShowsLine}
use Rattle.dm_gdb.proofs.server.Server.show.Goals as goal

pub returns : goal.returns
returns c =
    let same : c.new-session.result ≡ new_session c.args.self.now.history.machine =
    c.new-session.ensures ∙ ap (λ (m : State). new_session m) c.in_ok-copy_machine.ensures.copy
    ∙ ap (λ (s : Served). new_session s.history.machine) c.self.view_is in
    IfOk-weaker c.shown_by.result _ _ (λ text p. subst (λ (d : Debugged). ShowsLine d c.args.line.now text.items) same
    p) c.shown_by.ensures
