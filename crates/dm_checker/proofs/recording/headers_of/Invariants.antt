use Rattle.std.proofs.Common.{◌≡◌, map, take}
use Rattle.dm_checker.specs.ArenaCopy.{header_of}
use Rattle.dm_checker.proofs.recording.headers_of.Given as goal

abbrev pub invariant-loop-copy : goal.invariant-loop-copy
invariant-loop-copy l = l.list.items ≡ map header_of (take l.copy-index l.headers)
