-- The handles of extended memory and the upper memory blocks as records. Source: XMS 3.0.
use Rattle.std.specs.Prelude.{ℕ, ◌+◌, List, slice_get, Option, Some, None, option_map}
use Rattle.dm_space.specs.Memory.{Memory}
use Rattle.dm_xms.specs.declared.tables.Handle.{Handle}
use Rattle.dm_xms.specs.declared.tables.Upper.{Upper}
use Rattle.dm_xms.specs.Tables.{Tables}
use Rattle.dm_xms.specs.Calls.{slot}
use Rattle.dm_xms.specs.Blocks.{begin_address}
use Rattle.dm_views.specs.declared.inventory.extended.ExtendedBlock.{ExtendedBlock}
use Rattle.dm_views.specs.declared.inventory.extended.UpperBlock.{UpperBlock}
use Rattle.dm_views.specs.inventory.Records.{records_in_turn}

-- the record of the block of handle `before + 1`; none if the handle is not in use. Handles count from 1
abbrev pub extended_record : Tables → Memory → ℕ → Option ExtendedBlock
extended_record xms m before =
    option_map (λ (h : Handle). record {
      address = begin_address m h.block;
      locks = h.locks;
      handle = before + 1;
      kib = h.kib;
    }) (slot xms (before + 1))

-- the records of the blocks of the handles in use, in rising order
abbrev pub extended_records : Tables → Memory → List ExtendedBlock
extended_records xms m = records_in_turn (extended_record xms m) 64

-- the record of an upper memory block, if there is one
abbrev pub upper_of : Option Upper → Option UpperBlock
upper_of None = None
upper_of (Some u) = Some (record { segment = u.segment; size = u.paragraphs })

-- the record of upper memory block k, from 0; none if there is none
abbrev pub upper_record : Tables → ℕ → Option UpperBlock
upper_record xms k = upper_of (slice_get xms.uppers k)

-- the records of the upper memory blocks, by rising segment
abbrev pub upper_records : Tables → List UpperBlock
upper_records xms = records_in_turn (upper_record xms) 64
