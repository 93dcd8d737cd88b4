use Rattle.std.proofs.Common.{◌≡◌, drop}
use Rattle.std.specs.List.{find}
use Rattle.dm_space.specs.Memory.{Memory}
use Rattle.dm_target.specs.Watching.{is_changed}
use Rattle.dm_target.specs.inner.Looking.{all_bytes}
use Rattle.dm_target.proofs.watching.first_changed.Given as goal

abbrev pub invariant-loop-point : goal.invariant-loop-point
invariant-loop-point l = (m : Memory) → l.before ≡ all_bytes m l.watches →
    (l.rest ≡ all_bytes m (drop l.point-index l.watches)) ×
    (find (is_changed m l.space.memory) (drop l.point-index l.watches) ≡ find (is_changed m l.space.memory) l.watches)
