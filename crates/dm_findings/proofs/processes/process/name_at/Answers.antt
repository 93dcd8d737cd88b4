use Rattle.std.proofs.Common.{◌≡◌, ℕ, ◌∷◌, [], ◌++◌, sym, ◌∙◌, ap, ap₂, List, arith, rules}
use Rattle.std.proofs.lemmas.List.{length-set, take_all, take_more_set}
use Rattle.dm_findings.specs.processes.Processes.{bytes_after, name_at}
use Rattle.dm_findings.proofs.processes.Naming.{bytes_none, bytes_more}
use Rattle.dm_findings.proofs.processes.process.name_at.Goals as goal

pub loop-at-init : goal.loop-at-init
loop-at-init c = record {
  length = search rules;
  items = sym (bytes_none c.args.space.now.memory c.args.segment c.args.offset);
}

pub loop-at-preserved : goal.loop-at-preserved
loop-at-preserved c =
    let i = c.loop-at.invariant in
    let xs = c.loop-at.name in
    let at = c.loop-at.at in
    record {
      length = length-set xs at c.peek.result ∙ i.length;
      items = take_more_set xs at c.peek.result (omega (arith, i.length)) ∙ ap₂ (λ (l : List ℕ) (b : ℕ). l ++ b
          ∷ []) i.items c.peek.ensures
          ∙ sym (bytes_more c.args.space.now.memory c.args.segment c.args.offset at);
    }

pub returns : goal.returns
unfolding name_at
returns c =
    let e : c.loop-at.at ≡ 64 = omega arith in
    sym (take_all c.loop-at.at c.loop-at.name (omega (arith, c.loop-at.invariant.length))) ∙ c.loop-at.invariant.items
    ∙ ap (bytes_after c.args.space.now.memory c.args.segment c.args.offset) e
