-- Laws of the drivers: none stops the machine or changes what belongs to no driver; each keeps the tables of expanded
-- and extended memory consistent with memory; a call that allocates pages of expanded memory leaves the handle with as
-- many as it asked for; and a call that allocates a block of extended memory gets it wherever a gap holds it.
use Rattle.std.specs.Prelude.{◌≡◌, ℕ, None, Ok}
use Rattle.dm_ems.specs.Tables.{Expanded, expanded}
use Rattle.dm_ems.specs.Handles.{allocate}
use Rattle.dm_ems.specs.Coming.{HasPages}
use Rattle.dm_ems_move.specs.declared.reallocation.Reallocated.{Reallocated}
use Rattle.dm_ems_move.specs.Reallocation.{reallocate}
use Rattle.dm_xms.specs.Tables.{extended}
use Rattle.dm_xms.specs.Blocks as extended_memory
use Rattle.dm_xms.specs.Coming.{Gives}
use Rattle.dm_services.specs.state.State.{State, Answer, AreConsistent}
use Rattle.dm_space.specs.declared.entry_points.Driver.{Driver}
use Rattle.dm_drivers.specs.Drivers.{driven}

-- the result x of a driver's call from s has no stop and differs from s in registers, memory, the tables of expanded
-- and extended memory, and the count of steps alone
abbrev pub LeavesTheRest : State → Answer → Type 0
LeavesTheRest s x = x ≡ record {
  stop = None;
  state = record s {
    cpu = x.state.cpu;
    memory = x.state.memory;
    ems = x.state.ems;
    xms = x.state.xms;
    steps = x.state.steps;
  };
}

-- no driver stops the machine or changes more than registers, memory, the tables of expanded and extended memory and
-- the count of steps (`LeavesTheRest`), and each keeps those tables consistent with memory
pub record DriversKeep : Type 0 where
  pub rest : (s : State) (driver : Driver) → LeavesTheRest s (driven s driver)
  pub consistency : (s : State) (driver : Driver) → AreConsistent s → AreConsistent (driven s driver).state

-- if the tables are consistent with memory: a handle that INT 67h function 43h allocates with n pages, or that function
-- 51h reallocates to n pages without an error code, then has exactly n pages
pub record PagesCome : Type 0 where
  pub allocating : (s : State) (y : Expanded) (n handle : ℕ) → AreConsistent s → allocate (expanded s.ems s.memory) n
      ≡ Ok (handle, y) → HasPages (expanded s.ems s.memory) y handle n
  pub reallocating : (s : State) (y : Expanded) (handle n : ℕ) (r : Reallocated) → AreConsistent s →
      reallocate (expanded s.ems s.memory) handle n ≡ Ok (r, y) → r.refused ≡ None →
      HasPages (expanded s.ems s.memory) y handle n

-- if the tables are consistent with memory: function 09h of the extended memory driver gives a handle with a new block
-- of so many KiB, except where each handle is in use (A1h), or no gap of the pool holds the block (A0h)
abbrev pub BlockComes : Type 0
BlockComes = (s : State) (kib : ℕ) → AreConsistent s → Gives (extended s.xms s.memory) kib
    (extended_memory.allocate (extended s.xms s.memory) kib)
