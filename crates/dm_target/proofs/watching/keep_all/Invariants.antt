use Rattle.std.proofs.Common.{◌≡◌, [], ◌++◌, take}
use Rattle.std.specs.List.{flat_map}
use Rattle.dm_target.specs.Watching.{watched_bytes}
use Rattle.dm_target.proofs.watching.keep_all.Given as goal

abbrev pub invariant-loop-point : goal.invariant-loop-point
invariant-loop-point l = l.kept.items ≡ [] ++ flat_map (watched_bytes l.space.memory) (take l.point-index l.watches)
