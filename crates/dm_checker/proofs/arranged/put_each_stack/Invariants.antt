use Rattle.std.proofs.Common.{◌≡◌, ◌++◌, map, take}
use Rattle.std.specs.List.{flat_map}
use Rattle.dm_checker.specs.Arranged.{stack_in}
use Rattle.dm_checker.specs.ArenaCopy.{header_of}
use Rattle.dm_checker.proofs.arranged.put_each_stack.Given as goal

abbrev pub invariant-loop-copy : goal.invariant-loop-copy
invariant-loop-copy l = l.out.items ≡ l.initial.out.items
    ++ flat_map (stack_in l.at) (map header_of (take l.copy-index l.headers))
