-- Of how many blocks the pool has numbers.
use Rattle.std.specs.Prelude.{◌+◌, ◌≤◌, count_by, is_some}
use Rattle.dm_xms.specs.Tables.{Extended}

-- at most 512 blocks of the pool belong to no handle: so of its 576 numbers 64 are left for the blocks of handles
abbrev pub HasNumbers : Extended → Type 0
HasNumbers x = count_by is_some x.memory.blocks.places ≤ count_by is_some x.xms.handles + 512
