use Rattle.std.proofs.Common.{◌≡◌, ℕ, List, ◌∙◌, ap, refl, subst}
use Rattle.dm_services.specs.state.State.{State}
use Rattle.dm_requests.specs.declared.request.Point.{Point}
use Rattle.dm_target.specs.Returning.{Returns}
use Rattle.dm_gdb.specs.Servers.{Served, continues_back, with_timeline, undone_reply}
use Rattle.dm_gdb.proofs.Replying.{replies_as}
use Rattle.dm_gdb.proofs.server.Server.continue_back.Goals as goal

pub returns-clause-ok : goal.returns-clause-ok
returns-clause-ok c =
    let what = c.in_ok-undone.undone in
    let q = c.turn_back.new.history in
    let returns : Returns c.args.self.now.points.breaks c.args.self.now.points.watches c.args.self.now.history what q =
    subst (λ (s : Served). Returns s.points.breaks s.points.watches s.history what q) c.self.view_is
    (subst (λ (ps : List ℕ). Returns ps c.self.inside.points.watches c.self.inside.history what q)
    c.breaks-breaks.ensures
    (subst (λ (ws : List Point). Returns c.breaks-breaks.result.now ws c.self.inside.history what q) c.watches.ensures
    c.in_ok-undone.ensures.ok)) in
    let told : c.undone_reply.result ≡ undone_reply c.args.self.now.points.breaks what q.machine =
    c.undone_reply.ensures ∙ ap (λ (ps : List ℕ). undone_reply ps what c.machine.result.now) c.breaks-breaks.ensures
    ∙ ap (λ (m : State). undone_reply c.self.inside.points.breaks what m) c.machine.ensures
    ∙ ap (λ (s : Served). undone_reply s.points.breaks what q.machine) c.self.view_is in
    λ most. replies_as c.args.self.now _ (with_timeline c.args.self.now q) most _ _ c.undone_reply.result _
    (continues_back what q returns) refl told (ap (λ (s : Served). with_timeline s q) c.self.view_is)
