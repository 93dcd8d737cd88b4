use Rattle.std.proofs.Common.{◌-◌, List}
use Rattle.dm_space.specs.declared.place.Place.TheVariants.{Page}
use Rattle.dm_blocks.specs.declared.header.Header.{Header}
use Rattle.dm_blocks.specs.Reading.{IsSpelledFrom}
use Rattle.dm_arena.specs.inner.Walks.{IsLooking}
use Rattle.dm_arena.proofs.standing.stands_joined.Given as goal

abbrev pub invariant-walk : goal.invariant-walk
invariant-walk l = (L : List Header) → IsSpelledFrom l.space.memory l.first L → (K : List Header) ×
    IsLooking l.upper l.space.memory L (Page l.block l.offset) l.segment K

abbrev pub decreases-walk : goal.decreases-walk
decreases-walk l = 0x10000 - l.segment
