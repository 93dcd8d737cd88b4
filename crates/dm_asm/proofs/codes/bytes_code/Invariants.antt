use Rattle.std.proofs.Common.{◌≡◌, take, map, Some}
use Rattle.arrayvec.specs.ArrayVec.{array_vec_len}
use Rattle.dm_lines.specs.Placing.{amount_byte}
use Rattle.dm_asm.proofs.codes.bytes_code.Given as goal

abbrev pub invariant-loop-amount : goal.invariant-loop-amount
invariant-loop-amount l = record {
  long : array_vec_len l.code ≡ l.amount-index;
  are : map amount_byte (take l.amount-index l.amounts) ≡ map Some l.code.items;
}
