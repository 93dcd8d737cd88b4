use Rattle.std.proofs.Common.{ℕ, ◌<◌, refl, ◌∙◌, ap, subst}
use Rattle.dm_history.specs.Timelines.{GoesBack}
use Rattle.dm_gdb.specs.Servers.{Served, has_passed, goes_back, with_timeline}
use Rattle.dm_gdb.proofs.Replying.{replies_as, is_ok_true}
use Rattle.dm_gdb.proofs.server.Server.go_back.Goals as goal

pub returns-then-number-steps_of_beginning-clause-ok : goal.returns-then-number-steps_of_beginning-clause-ok
returns-then-number-steps_of_beginning-clause-ok c =
    λ most. has_passed c.args.line.now c.args.number c.requires.line
    (subst (λ (k : ℕ). c.args.number < k) (c.steps_of_beginning.ensures
    ∙ ap (λ (s : Served). s.history.beginning.steps) c.self.view_is) c.if-number-steps_of_beginning.true)

pub returns-then-branch-clause-ok : goal.returns-then-branch-clause-ok
returns-then-branch-clause-ok c =
    let q = c.go_back_to.new.self in
    let back : GoesBack c.args.self.now.history c.args.number q =
    subst (λ (s : Served). GoesBack s.history c.args.number q) c.self.view_is (c.go_back_to.ensures.back
    (is_ok_true c.go_back_to.result c.in_ok-go_back_to.field-0 c.in_ok-go_back_to.was c.if-branch.true)) in
    λ most. replies_as c.args.self.now _ (with_timeline c.args.self.now q) most _ _ _ _
    (goes_back c.args.line.now c.args.number q c.requires.line c.requires.before back) refl refl
    (ap (λ (s : Served). with_timeline s q) c.self.view_is)
