use Rattle.std.proofs.Common.{◌≡◌, drop}
use Rattle.std.specs.List.{find}
use Rattle.dm_target.specs.Watching.{is_touched}
use Rattle.dm_target.proofs.watching.first_touched.Given as goal

abbrev pub invariant-loop-point : goal.invariant-loop-point
invariant-loop-point l = find (is_touched l.a20 l.touched.reads l.touched.writes) (drop l.point-index l.watches)
    ≡ find (is_touched l.a20 l.touched.reads l.touched.writes) l.watches
