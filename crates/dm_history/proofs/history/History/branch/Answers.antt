use Rattle.std.proofs.Common.{ap, arith}
use Rattle.std.proofs.lemmas.Result.{IfOk-weaker}
use Rattle.dm_history.specs.Timelines.{Timeline, new_timeline}
use Rattle.dm_history.specs.Branches.{IsBranch}
use Rattle.dm_history.proofs.Branching.{branch-of}
use Rattle.dm_history.proofs.history.History.branch.Goals as goal

pub returns : goal.returns
returns c =
    let same = ap (λ (p : Timeline). p.machine.steps) c.self.view_is in
    IfOk-weaker c.new.result _ (λ (b : Timeline). IsBranch c.args.self.now c.args.wish c.args.end b) (λ b e.
    branch-of (record {
      beginning = c.self.inside.beginning;
      edits = c.self.inside.edits.items;
      machine = c.self.inside.machine;
    }) c.args.self.now b _ c.args.wish c.args.end c.begin-from.result
    c.in_ok-machine.machine c.self.view_is c.self.invariant
    (omega (arith, c.steps-now.ensures, same)) c.requires.since c.begin-from.ensures.since c.begin-from.ensures.before
    c.requires.within c.begin-from.ensures.quiet c.in_ok-machine.ensures.was e) c.new.ensures
