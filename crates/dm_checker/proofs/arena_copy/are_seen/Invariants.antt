use Rattle.std.specs.List.{AllWithin}
use Rattle.dm_checker.specs.ArenaCopy.{IsHeaderCopy}
use Rattle.dm_checker.proofs.arena_copy.are_seen.Given as goal

abbrev pub invariant-loop-copy : goal.invariant-loop-copy
invariant-loop-copy l = AllWithin (IsHeaderCopy l.space.memory) l.headers 0 l.copy-index
