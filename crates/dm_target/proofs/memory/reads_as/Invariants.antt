use Rattle.std.proofs.Common.{◌≡◌, ◌+◌, drop}
use Rattle.dm_target.specs.Memory.{reads_as}
use Rattle.dm_target.proofs.memory.reads_as.Given as goal

abbrev pub invariant-loop-k : goal.invariant-loop-k
invariant-loop-k l = reads_as l.space.memory (l.address + l.k) (drop l.k l.bytes)
    ≡ reads_as l.space.memory l.address l.bytes
