use Rattle.std.proofs.Common.{arith}
use Rattle.dm_checker.proofs.Levels.{marked_keeps, marked_gives}
use Rattle.dm_checker.proofs.marking.mark_window.Goals as goal

pub returns : goal.returns
returns c = record {
  keeps = marked_keeps _ _ 1 1 _ _ c.mark.ensures (omega arith) (omega arith);
  marked = λ p low high off. marked_gives _ _ 1 1 p _ _ c.mark.ensures (omega arith) (omega arith) (omega (
    arith,
    low,
  )) (omega (arith, high));
}
