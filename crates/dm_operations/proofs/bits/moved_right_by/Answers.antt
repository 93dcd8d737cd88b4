use Rattle.std.proofs.Common.{◌≡◌, ap, arith}
use Rattle.dm_alu.specs.inner.Rotations.{bits_of}
use Rattle.dm_operations.proofs.Rights.{halved_carry}
use Rattle.dm_operations.proofs.bits.moved_right_by.Goals as goal

pub returns-in-Byte-clause-carry : goal.returns-in-Byte-clause-carry
returns-in-Byte-clause-carry c =
    let few : bits_of c.args.width ≡ 8 = ap bits_of c.in-Byte.is in
    halved_carry c.args.number c.args.count c.requires.some (omega arith)
