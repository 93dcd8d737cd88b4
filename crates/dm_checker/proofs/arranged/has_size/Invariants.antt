use Rattle.std.proofs.Common.{◌≡◌, map, drop}
use Rattle.dm_checker.specs.Arranged.{has_size}
use Rattle.dm_checker.specs.ArenaCopy.{header_of}
use Rattle.dm_checker.proofs.arranged.has_size.Given as goal

abbrev pub invariant-loop-copy : goal.invariant-loop-copy
invariant-loop-copy l = has_size l.segment l.size (map header_of l.headers)
    ≡ has_size l.segment l.size (map header_of (drop l.copy-index l.headers))
