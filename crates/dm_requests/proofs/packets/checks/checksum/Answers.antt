use Rattle.std.proofs.Common.{arith}
use Rattle.dm_requests.proofs.packets.Sums.{sum_more}
use Rattle.dm_requests.proofs.packets.checks.checksum.Goals as goal

pub loop-byte-preserved : goal.loop-byte-preserved
loop-byte-preserved c = sum_more c.args.bytes.now c.loop-byte.byte-index c.loop-byte.sum
    (omega arith) c.loop-byte.invariant
