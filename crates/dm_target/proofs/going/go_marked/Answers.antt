use Rattle.std.proofs.Common.{◌≡◌, ℕ, ◌-◌, refl, sym, ap, subst, ◌∙◌, arith}
use Rattle.dm_target.specs.Going.{has_arrived}
use Rattle.dm_target.specs.Going as going
use Rattle.dm_history.specs.Timelines.{Timeline}
use Rattle.dm_target.specs.inner.Looking.{Ends}
use Rattle.dm_services.specs.state.State.{State}
use Rattle.dm_target.proofs.Passing.{ends_with, goes_with, more_passes, near_arrives, near_none, passes_at}
use Rattle.dm_target.proofs.going.go_marked.Goals as goal
use Rattle.dm_target.proofs.going.go_marked.Goals.{then-made-eq0+in_default, else-made-eq0+else-has_arrived}

pub loop-init : goal.loop-init
loop-init c = record {
  counted = omega arith;
  passes = (let F : ℕ → Type 0 = λ j. going.RunsPast c.args.points.now c.args.watches.now c.args.span
      c.args.history.now.machine j c.args.history.now.machine in let none : 0 ≡ c.args.most - c.args.most =
      omega arith in subst F none going.here);
  beginning = refl;
  edits = refl;
}

pub returns-in-Some-clause-goes : goal.returns-in-Some-clause-goes
returns-in-Some-clause-goes c =
    let near : c.run_unhit-made.new.history.machine ≡ c.loop.history.machine =
    near_none c.args.points.now c.args.watches.now c.args.span c.loop.history.machine
    c.run_unhit-made.new.history.machine c.run_unhit-made.result c.run_unhit-made.ensures.near c.if-made-eq0.true in
    ends_with c.args.points.now c.args.watches.now c.args.span c.args.history.now.machine c.loop.history.machine
    c.look_on.new.history.machine c.args.most c.loop.left c.look_on.result c.in-Some.pause c.in-Some.is
    (omega (arith, c.loop.invariant.counted)) (omega arith) c.loop.invariant.passes
    (subst (λ (x : State). Ends c.args.points.now c.args.watches.now c.args.span x c.look_on.result
    c.look_on.new.history.machine) near c.look_on.ensures.ends)

pub returns-then-has_arrived-clause-goes : goal.returns-then-has_arrived-clause-goes
returns-then-has_arrived-clause-goes c =
    near_arrives c.args.points.now c.args.watches.now c.args.span c.args.history.now.machine c.loop.history.machine
    c.run_unhit-made.new.history.machine c.args.most c.loop.left c.run_unhit-made.result
    (omega (arith, c.loop.invariant.counted)) c.run_unhit-made.ensures.most (omega arith) c.loop.invariant.passes
    c.run_unhit-made.ensures.near
    (ap (λ s. has_arrived c.args.points.now c.args.span s) (sym c.machine.ensures) ∙ sym c.has_arrived.ensures
    ∙ c.if-has_arrived.true)

pub loop-preserved : goal.loop-preserved
loop-preserved c = elim c.if-made-eq0.branch [
  | then-made-eq0+in_default w ↦
      let ps = c.args.points.now in
      let ws = c.args.watches.now in
      let span = c.args.span in
      let s = c.args.history.now.machine in
      let near : c.run_unhit-made.new.history.machine ≡ c.loop.history.machine =
      near_none ps ws span c.loop.history.machine c.run_unhit-made.new.history.machine c.run_unhit-made.result
      c.run_unhit-made.ensures.near w.if-made-eq0.true in
      let left : c.if-made-eq0.left ≡ c.loop.left - 1 = w.left-is in
      record {
        counted = omega (arith, left, c.loop.invariant.counted, c.if-left-eq0.false);
        passes = passes_at ps ws span s w.look_on.new.history c.if-made-eq0.history c.args.most
            (c.loop.left - 1) c.if-made-eq0.left w.history-is left
            (goes_with ps ws span s c.loop.history.machine w.look_on.new.history.machine c.args.most c.loop.left
            w.look_on.result w.in_default.is (omega (arith, c.loop.invariant.counted)) (omega (
              arith,
              c.if-left-eq0.false,
            )) c.loop.invariant.passes
            (subst (λ (x : State). Ends ps ws span x w.look_on.result w.look_on.new.history.machine) near
            w.look_on.ensures.ends));
        beginning = ap (λ (x : Timeline). x.beginning) w.history-is ∙ w.look_on.ensures.beginning
            ∙ c.run_unhit-made.ensures.beginning ∙ c.loop.invariant.beginning;
        edits = ap (λ (x : Timeline). x.edits) w.history-is ∙ w.look_on.ensures.edits ∙ c.run_unhit-made.ensures.edits
            ∙ c.loop.invariant.edits;
      }
  | else-made-eq0+else-has_arrived w ↦
      let ps = c.args.points.now in
      let ws = c.args.watches.now in
      let span = c.args.span in
      let s = c.args.history.now.machine in
      let left : c.if-made-eq0.left ≡ c.loop.left - c.run_unhit-made.result = w.left-is in
      record {
        counted = omega (arith, left, c.loop.invariant.counted, w.if-made-eq0.false, c.run_unhit-made.ensures.most);
        passes = passes_at ps ws span s c.run_unhit-made.new.history c.if-made-eq0.history c.args.most
            (c.loop.left - c.run_unhit-made.result) c.if-made-eq0.left w.history-is left
            (more_passes ps ws span s c.loop.history.machine c.run_unhit-made.new.history.machine c.args.most
            c.loop.left c.run_unhit-made.result (omega (arith, c.loop.invariant.counted)) c.run_unhit-made.ensures.most
            c.loop.invariant.passes c.run_unhit-made.ensures.near
            (ap (λ x. has_arrived ps span x) (sym w.machine.ensures) ∙ sym w.has_arrived.ensures
            ∙ w.if-has_arrived.false));
        beginning = ap (λ (x : Timeline). x.beginning) w.history-is ∙ c.run_unhit-made.ensures.beginning
            ∙ c.loop.invariant.beginning;
        edits = ap (λ (x : Timeline). x.edits) w.history-is ∙ c.run_unhit-made.ensures.edits ∙ c.loop.invariant.edits;
      }
]
