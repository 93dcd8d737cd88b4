use Rattle.dm_ins.proofs.Shortest.{best_spells, none_best}
use Rattle.dm_ins.proofs.ins.Ins.new.Goals as goal

pub invariant_of-result : goal.invariant_of-result
invariant_of-result c = record {
  has_spelling = ∣ (
    c.in-Some.field-0.items,
    best_spells c.args.action c.in-Some.field-0.items c.in-Some.ensures,
  ) ∣₁;
}

pub returns-in-None-clause-none : goal.returns-in-None-clause-none
returns-in-None-clause-none c = λ bytes s. none_best c.args.action bytes c.in-None.ensures s
