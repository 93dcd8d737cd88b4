use Rattle.std.proofs.Common.{arith}
use Rattle.dm_checker.proofs.Levels.{marked_keeps, block_made}
use Rattle.dm_checker.proofs.marking.mark_block.Goals as goal

pub returns : goal.returns
returns c = record {
  keeps = λ n small. marked_keeps _ _ 2 n _ _ c.mark.ensures small small;
  marked = block_made c.args.header.now _ _ _ c.mark.ensures (λ p up under. omega (arith, up, under));
}
