use Rattle.std.proofs.Common.{◌-◌, List}
use Rattle.dm_space.specs.declared.place.Place.TheVariants.{Page}
use Rattle.dm_blocks.specs.declared.header.Header.{Header}
use Rattle.dm_blocks.specs.Reading.{IsSpelledFrom}
use Rattle.dm_arena.specs.inner.Walks.{IsLookingOutside}
use Rattle.dm_arena.proofs.standing.stands_outside.Given as goal

abbrev pub invariant-walk : goal.invariant-walk
invariant-walk l = (L : List Header) → IsSpelledFrom l.space.memory l.first L → (K : List Header) ×
    IsLookingOutside l.space.memory L l.low l.high (Page l.block l.offset) l.segment K

abbrev pub decreases-walk : goal.decreases-walk
decreases-walk l = 0x10000 - l.segment
