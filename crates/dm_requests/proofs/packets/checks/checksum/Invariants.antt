use Rattle.std.proofs.Common.{◌≡◌, ◌%◌, take, sum}
use Rattle.dm_requests.proofs.packets.checks.checksum.Given as goal

abbrev pub invariant-loop-byte : goal.invariant-loop-byte
invariant-loop-byte l = l.sum ≡ sum (take l.byte-index l.bytes) % 256
