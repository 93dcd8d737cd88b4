use Rattle.std.proofs.Common.{arith}
use Rattle.dm_blocks.proofs.Words.{number-of}
use Rattle.dm_blocks.proofs.header.fields_at.Goals as goal

pub returns : goal.returns
returns c =
    let n = number-of c.args.space.now.memory c.args.segment c.first_bytes_anywhere-eight.result
    (omega arith) c.first_bytes_anywhere-eight.ensures in
    record { signature = n.signature; owner = n.owner; size = n.size; bytes = n.bytes }
