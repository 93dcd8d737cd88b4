use Rattle.std.proofs.Common.{◌≡◌, take}
use Rattle.dm_machine.proofs.loading.arguments.Given as goal

abbrev pub invariant-loop-byte : goal.invariant-loop-byte
invariant-loop-byte l = l.bytes.items ≡ take l.byte-index l.tail
