use Rattle.std.proofs.Common.{◌≡◌, ◌++◌, map, take}
use Rattle.std.specs.Prelude.{All}
use Rattle.std.specs.List.{flat_map}
use Rattle.dm_space.specs.Memory.{Memory}
use Rattle.dm_checker.specs.Headers.{mapped_away}
use Rattle.dm_checker.specs.ArenaCopy.{header_of, IsHeaderCopy}
use Rattle.dm_checker.proofs.headers.put_all_mapped_away.Given as goal

abbrev pub invariant-loop-copy : goal.invariant-loop-copy
invariant-loop-copy l = (S : Memory) → l.windows ≡ S.windows → All (IsHeaderCopy S) l.headers →
    l.out.items ≡ l.initial.out.items ++ flat_map (mapped_away S l.space.memory)
    (map header_of (take l.copy-index l.headers))
