-- The headers of the first list below segment C000h. For private contracts and proofs alone.
use Rattle.std.specs.Prelude.{Bool, List, [], ℕ}
use Rattle.dm_space.specs.Memory.{Memory}
use Rattle.dm_blocks.specs.declared.header.Header.{Header}
use Rattle.dm_blocks.specs.declared.low.LowPart.{LowPart}
use Rattle.dm_blocks.specs.declared.low.LowPart.TheVariants.{Whole, Destroyed, UpTo}
use Rattle.dm_blocks.specs.Chain.{first_header, IsArena, NoArena}
use Rattle.dm_blocks.specs.Listing.{Leads}
use Rattle.dm_blocks.specs.inner.Occupied.{AreOccupied}

-- the headers P lead from the first one to segment t; none of them stands in a page, so that they occupy no
-- paragraph of the frame
pub record IsUpTo (S : Memory) (P : List Header) (t : ℕ) : Type 0 where
  pub leads : Leads S [] first_header P t
  pub unoccupied : (occupied : List Bool) → AreOccupied S [] occupied → AreOccupied S P occupied

-- the result of `low_part`: a clear list, none, or where the next header of the list has to be
abbrev pub IsLowPart : Memory → LowPart → Type 0
IsLowPart S Whole = (L : List Header) × IsArena S first_header L
IsLowPart S Destroyed = NoArena S first_header
IsLowPart S (UpTo t) = (P : List Header) × IsUpTo S P t
