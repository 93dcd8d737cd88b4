-- When nothing can be found of the bytes that an instruction touches, and it leaves the headers as they are. No
-- definition of a finding mentions it.
use Rattle.std.specs.Prelude.{ℕ, ◌-◌, ◌/◌, ◌==◌, ◌&&◌, ◌||◌, not, nat_lt, is_some, Bool, true, false, if◌then◌else◌, List, slice_index_or, None}
use Rattle.std.specs.List.{list_any}
use Rattle.dm_space.specs.Memory.{Memory}
use Rattle.dm_touches.specs.Found.{is_in_free}
use Rattle.dm_checker.specs.declared.arena_copy.HeaderCopy.{HeaderCopy}

-- whether the linear address is in the memory of the free block behind the header
abbrev pub is_free_of : ℕ → HeaderCopy → Bool
is_free_of a x = is_in_free x.header a

-- whether the linear address is in that memory, or in the paragraph of the header
abbrev pub is_at : ℕ → HeaderCopy → Bool
is_at a x = is_free_of a x || (x.header.segment == a / 16)

-- whether the header is in the page frame or above it
abbrev pub is_high : HeaderCopy → Bool
is_high x = nat_lt 0xDFFF x.header.segment

-- whether a write of the linear address goes to RAM below the frame or above the ROM, or to a page that a window shows
-- while no header is in the frame
abbrev pub keeps_writes : Memory → List HeaderCopy → ℕ → Bool
keeps_writes m ws a =
    if nat_lt a 0xC0000 then true else
    if nat_lt a 0xD0000 then false else
    if nat_lt a 0xE0000 then true else
    if nat_lt a 0xF0000 then is_some (slice_index_or m.windows ((a - 0xE0000) / 0x4000) None) &&
    not (list_any is_high ws) else not (nat_lt a 0x100000) && nat_lt a 0x10FFF0

-- whether nothing is found of a read of the linear address
abbrev pub is_read_unfound : List HeaderCopy → ℕ → Bool
is_read_unfound ws a = not (list_any (is_free_of a) ws)

-- whether nothing is found of a write to the linear address, and it is in no header
abbrev pub is_write_unfound : Memory → List HeaderCopy → ℕ → Bool
is_write_unfound m ws a = keeps_writes m ws a && not (list_any (is_at a) ws)
