-- The listing of extended memory: the blocks of the handles in use, the upper memory blocks, and A20 and the high
-- memory area. Source: XMS 3.0. The form is this machine's own.
use Rattle.std.specs.Prelude.{ℕ, ◌+◌, Bool, if◌then◌else◌, List, [], ◌∷◌, ◌++◌, codes, slice_get, Option, Some, None}
use Rattle.std.specs.Option.{option_map_or}
use Rattle.dm_space.specs.Memory.{Memory}
use Rattle.dm_xms.specs.declared.tables.Handle.{Handle}
use Rattle.dm_xms.specs.declared.tables.Upper.{Upper}
use Rattle.dm_xms.specs.Tables.{Tables}
use Rattle.dm_xms.specs.Calls.{slot}
use Rattle.dm_xms.specs.Blocks.{begin_address}
use Rattle.dm_views.specs.Digits.{two_digits, four_digits, eight_digits, in_turn}

-- the line of an extended memory block: handle, linear address, size in KiB, lock count
abbrev pub block_line : ℕ → ℕ → ℕ → ℕ → List ℕ
block_line number base kib locks = four_digits number ++ codes " " ++ eight_digits base ++ codes " " ++ four_digits kib
    ++ codes " " ++ two_digits locks ++ 10 ∷ []

-- the line of the block of handle `before + 1`; no text if the handle is not in use. Handles count from 1
abbrev pub block_text : Tables → Memory → ℕ → List ℕ
block_text xms m before =
    option_map_or (λ (h : Handle). block_line (before + 1) (begin_address m h.block) h.kib h.locks)
    (slot xms (before + 1)) []

-- the line of an upper memory block: segment and size in paragraphs; no text for None
abbrev pub upper_line : Option Upper → List ℕ
upper_line None = []
upper_line (Some u) = codes "upper " ++ four_digits u.segment ++ codes " " ++ four_digits u.paragraphs ++ 10 ∷ []

-- the line of upper memory block k, from 0; no text if there is none
abbrev pub upper_text : Tables → ℕ → List ℕ
upper_text xms k = upper_line (slice_get xms.uppers k)

-- the line that says whether A20 is on (`on`) and whether the high memory area is used (`taken`)
abbrev pub switches_text : Bool → Bool → List ℕ
switches_text on taken = (if on then codes "A20 on" else codes "A20 off") ++ (if taken then codes " HMA used" ++ 10 ∷ []
    else codes " HMA free" ++ 10 ∷ [])

-- the listing of extended memory: a line for each of its 64 handles that is in use, one for each of at most 64 upper
-- memory blocks, and that of A20 and the high memory area
abbrev pub extended_text : Tables → Memory → List ℕ
extended_text xms m = in_turn (block_text xms m) 64 ++ in_turn (upper_text xms) 64 ++ switches_text m.a20 xms.area
