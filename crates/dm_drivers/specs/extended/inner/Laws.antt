-- The law of a call of the extended memory driver (`dispatched`), whatever function AH selects: tables and memory stay
-- consistent, and what is outside of extended memory is kept.
use Rattle.std.specs.Prelude.{Bool}
use Rattle.dm_xms.specs.Consistent.{IsConsistent}
use Rattle.dm_xms.specs.inner.Outside.{LeavesOutside}
use Rattle.dm_drivers.specs.extended.Caller.{Caller}
use Rattle.dm_drivers.specs.extended.Functions.{dispatched}

-- each call leaves tables and memory consistent if they are so before it, and keeps the windows, and the blocks of the
-- pool that belong to no handle, with their sizes; of their bytes nothing is said
pub record ExtendedMemoryCallsKeep : Type 0 where
  pub consistency : (upper : Bool) (c : Caller) → IsConsistent c.x → IsConsistent (dispatched upper c).x
  pub outside : (upper : Bool) (c : Caller) → LeavesOutside c.x (dispatched upper c).x
