use Rattle.std.proofs.Common.{◌≡◌, ◌++◌, map, take}
use Rattle.std.specs.List.{flat_map}
use Rattle.dm_checker.specs.Arranged.{other_block}
use Rattle.dm_checker.specs.ArenaCopy.{header_of}
use Rattle.dm_checker.proofs.arranged.put_each_other.Given as goal

abbrev pub invariant-loop-copy : goal.invariant-loop-copy
invariant-loop-copy l = l.out.items ≡ l.initial.out.items ++ flat_map (other_block l.present l.segment)
    (map header_of (take l.copy-index l.headers))
