use Rattle.dm_space.proofs.Written.{IsStored}
use Rattle.dm_space.proofs.space.Space.write_bytes.Given as goal

abbrev pub invariant-loop-index : goal.invariant-loop-index
invariant-loop-index l = IsStored l.initial.self l.segment l.offset l.bytes l.index l.self
