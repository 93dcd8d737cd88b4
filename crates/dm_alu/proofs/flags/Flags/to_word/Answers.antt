use Rattle.std.proofs.Common.{arith}
use Rattle.dm_alu.specs.Flags.{flags_word}
use Rattle.dm_alu.proofs.Bits.{bit_le}
use Rattle.dm_alu.proofs.RoundTrip.{loaded}
use Rattle.dm_alu.proofs.flags.Flags.to_word.Goals as goal

pub returns-clause-loads_back : goal.returns-clause-loads_back
unfolding flags_word
returns-clause-loads_back c = loaded _ c.args.self (omega (arith, bit_le))
