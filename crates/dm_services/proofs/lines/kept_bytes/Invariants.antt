use Rattle.dm_services.proofs.Keeping.{IsKept}
use Rattle.dm_services.proofs.lines.kept_bytes.Given as goal

abbrev pub invariant-loop-byte : goal.invariant-loop-byte
invariant-loop-byte l = IsKept l.most l.line l.byte-index l.bytes.items
