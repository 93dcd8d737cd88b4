-- The tables of extended memory (XMS 3.0): blocks by their handles, the high memory area, the switches of A20, and
-- upper memory blocks.
use Rattle.std.specs.Prelude.{ℕ, ◌+◌, ◌<◌, ◌≤◌, ◌≡◌, Bool, false, List, [], ◌∷◌, replicate, Option, None}
use Rattle.dm_space.specs.Memory.{Memory}
use Rattle.dm_xms.specs.declared.tables.Handle.{Handle}
use Rattle.dm_xms.specs.declared.tables.Upper.{Upper}

-- the tables of the extended memory driver
pub record Tables : Type 0 where
  -- the entry of each handle, 1 to 64, the first for handle 1; None for one that is not in use
  pub handles : List (Option Handle)
  -- whether the high memory area is taken
  pub area : Bool
  -- the global switch of A20, and its local count
  pub global : Bool
  pub local : ℕ
  -- the upper memory blocks, by rising segment
  pub uppers : List Upper

-- what calls of the driver read and change: its tables and the memory
pub record Extended : Type 0 where
  pub xms : Tables
  pub memory : Memory

-- the tables and the memory as one state
abbrev pub extended : Tables → Memory → Extended
extended xms memory = record { xms = xms; memory = memory }

-- the tables of a new machine: no handle is in use, the high memory area and upper memory are free, and A20 is off
abbrev pub new_tables : Tables
new_tables = record { handles = replicate 64 None; area = false; global = false; local = 0; uppers = [] }
