use Rattle.std.proofs.Common.{refl, arith}
use Rattle.dm_operations.specs.declared.bits.TheConstants.{MODULO_NINE}
use Rattle.dm_operations.proofs.Remainders.{at_place, leaves}
use Rattle.dm_operations.proofs.bits.modulo_nine.Goals as goal

pub returns : goal.returns
unfolding leaves
returns c = at_place 9 0 MODULO_NINE c.args.count refl refl (omega arith)
