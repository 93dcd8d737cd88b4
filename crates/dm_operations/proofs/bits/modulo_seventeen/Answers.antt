use Rattle.std.proofs.Common.{refl, arith}
use Rattle.dm_operations.specs.declared.bits.TheConstants.{MODULO_SEVENTEEN}
use Rattle.dm_operations.proofs.Remainders.{at_place, leaves}
use Rattle.dm_operations.proofs.bits.modulo_seventeen.Goals as goal

pub returns : goal.returns
unfolding leaves
returns c = at_place 17 0 MODULO_SEVENTEEN c.args.count refl refl (omega arith)
