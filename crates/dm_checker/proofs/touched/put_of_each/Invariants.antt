use Rattle.std.proofs.Common.{◌≡◌, ◌++◌, map, take}
use Rattle.std.specs.List.{flat_map}
use Rattle.dm_touches.specs.Elements.{bytes_of}
use Rattle.dm_touches.specs.Found.{of_header}
use Rattle.dm_checker.specs.ArenaCopy.{header_of}
use Rattle.dm_checker.proofs.touched.put_of_each.Given as goal

abbrev pub invariant-loop-copy : goal.invariant-loop-copy
invariant-loop-copy l = l.out.items ≡ l.initial.out.items
    ++ flat_map (of_header l.a20 (bytes_of l.touched.reads) (bytes_of l.touched.writes))
    (map header_of (take l.copy-index l.headers))
