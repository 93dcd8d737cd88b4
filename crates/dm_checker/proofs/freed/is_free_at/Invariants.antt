use Rattle.std.proofs.Common.{◌≡◌, map, drop}
use Rattle.dm_checker.specs.Freed.{is_free_at}
use Rattle.dm_checker.specs.ArenaCopy.{header_of}
use Rattle.dm_checker.proofs.freed.is_free_at.Given as goal

abbrev pub invariant-loop-copy : goal.invariant-loop-copy
invariant-loop-copy l = is_free_at (map header_of l.headers) l.segment
    ≡ is_free_at (map header_of (drop l.copy-index l.headers)) l.segment
