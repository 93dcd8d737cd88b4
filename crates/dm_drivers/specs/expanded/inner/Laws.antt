-- The law of INT 67h (`dispatched`), whatever function AH selects: tables and memory stay consistent, and what is
-- outside of expanded memory is kept.
use Rattle.dm_ems.specs.Consistent.{IsConsistent}
use Rattle.dm_ems.specs.inner.Outside.{LeavesOutside}
use Rattle.dm_drivers.specs.expanded.Caller.{Caller}
use Rattle.dm_drivers.specs.expanded.Functions.{dispatched}

-- each call of INT 67h leaves tables and memory consistent if they are so before it, and keeps A20, and the blocks of
-- the pool that are not pages, with their sizes; of their bytes nothing is said
pub record ExpandedMemoryCallsKeep : Type 0 where
  pub consistency : (c : Caller) → IsConsistent c.x → IsConsistent (dispatched c).x
  pub outside : (c : Caller) → LeavesOutside c.x (dispatched c).x
