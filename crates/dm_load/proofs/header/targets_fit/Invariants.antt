use Rattle.std.proofs.Common.{ℕ, ◌+◌, ◌<◌, ◌≤◌}
use Rattle.dm_load.specs.Image.{target}
use Rattle.dm_load.proofs.header.targets_fit.Given as goal

abbrev pub invariant-loop-index : goal.invariant-loop-index
invariant-loop-index l = (k : ℕ) → k < l.index → target l.file k + 2 ≤ l.room
