-- What is found of the bytes that an instruction touches: free memory, headers of the arena, windows that show no page,
-- the ROM, and no memory. Of each kind there is at most one finding for a block, a header or a window: of the first
-- byte.
-- Source: MS-DOS Programmer's Reference, "Arena header"; LIM EMS 4.0, section 2 (windows).
use Rattle.std.specs.Prelude.{ℕ, ◌+◌, ◌-◌, ◌*◌, ◌%◌, ◌==◌, ◌&&◌, not, nat_lt, is_some, Bool, if◌then◌else◌, List, [], ◌∷◌, ◌++◌, slice_index_or, Option, Some, None}
use Rattle.std.specs.List.{flat_map}
use Rattle.dm_space.specs.Memory.{Memory}
use Rattle.dm_cpu.specs.Guest.{Guest, up}
use Rattle.dm_ins.specs.declared.ins.Ins.{Ins}
use Rattle.dm_blocks.specs.declared.header.Header.{Header}
use Rattle.dm_findings.specs.declared.finding.Finding.{Finding}
use Rattle.dm_findings.specs.declared.finding.Finding.TheVariants.{FreeRead, FreeWritten, TailWritten, WindowLost, RomWritten, NothingWritten}
use Rattle.dm_touches.specs.declared.elements.FarAddress.{FarAddress}
use Rattle.dm_touches.specs.Elements.{linear_of, bytes_of}
use Rattle.dm_touches.specs.Touches.{reads, writes}

-- whether the linear address is from `first` up to but not including `end`
abbrev pub is_between : ℕ → ℕ → ℕ → Bool
is_between first end a = not (nat_lt a first) && nat_lt a end

-- the first of the bytes whose linear address satisfies the test; None if there is none
abbrev pub first_that : Bool → (ℕ → Bool) → List FarAddress → Option FarAddress
first_that a20 is [] = None
first_that a20 is (f ∷ fs) = if is (linear_of a20 f) then Some f else first_that a20 is fs

-- the finding of a byte, if there is one
abbrev pub if_some : (FarAddress → Finding) → Option FarAddress → List Finding
if_some finding None = []
if_some finding (Some f) = finding f ∷ []

-- ---- blocks of the arena: paragraphs, of which a header is the first

-- whether the linear address is in the memory of a free block (owner 0), behind its header
abbrev pub is_in_free : Header → ℕ → Bool
is_in_free b a = (b.owner == 0) && is_between (16 * (b.segment + 1)) (16 * (b.segment + 1) + 16 * b.size) a

-- whether the linear address is one of bytes 5 to 15 of the header
abbrev pub is_in_tail : Header → ℕ → Bool
is_in_tail b a = is_between (16 * b.segment + 5) (16 * b.segment + 16) a

-- the finding that memory of the block is read while the block is free
abbrev pub free_read : Bool → List FarAddress → Header → List Finding
free_read a20 fs b = if_some (λ f. FreeRead (up b.segment 1) f.segment f.offset) (first_that a20 (is_in_free b) fs)

-- the finding that memory of the block is written to while the block is free
abbrev pub free_written : Bool → List FarAddress → Header → List Finding
free_written a20 fs b = if_some (λ f. FreeWritten (up b.segment 1) f.segment f.offset)
    (first_that a20 (is_in_free b) fs)

-- the finding that bytes 5 to 15 of the header are written to
abbrev pub tail_written : Bool → List FarAddress → Header → List Finding
tail_written a20 fs b = if_some (λ f. TailWritten b.segment (linear_of a20 f % 16)) (first_that a20 (is_in_tail b) fs)

-- what is found at a block: its free memory read, its free memory written to, its header's other bytes written to
abbrev pub of_header : Bool → List FarAddress → List FarAddress → Header → List Finding
of_header a20 rs ws b = free_read a20 rs b ++ free_written a20 ws b ++ tail_written a20 ws b

-- ---- places

-- the finding that a window of the frame, from 0, is written to, which shows no page
abbrev pub window_lost : Memory → List FarAddress → ℕ → List Finding
window_lost m ws window =
    if is_some (slice_index_or m.windows window None) then [] else
    if_some (λ f. WindowLost window f.segment f.offset) (first_that m.a20 (is_between (0xE0000 + 0x4000 * window)
    (0xE0000 + 0x4000 * window + 0x4000)) ws)

-- the finding that the ROM is written to
abbrev pub rom_written : Bool → List FarAddress → List Finding
rom_written a20 ws = if_some (λ f. RomWritten f.segment f.offset) (first_that a20 (is_between 0xF0000 0x100000) ws)

-- the finding that a byte is written to between upper memory and the memory below it, where there is none
abbrev pub nothing_written : Bool → List FarAddress → List Finding
nothing_written a20 ws = if_some (λ f. NothingWritten f.segment f.offset)
    (first_that a20 (is_between 0xC0000 0xD0000) ws)

-- what is found of writes by the map of memory alone
abbrev pub of_places : Memory → List FarAddress → List Finding
of_places m ws =
    window_lost m ws 0 ++ window_lost m ws 1 ++ window_lost m ws 2 ++ window_lost m ws 3
    ++ rom_written m.a20 ws ++ nothing_written m.a20 ws

-- ---- an instruction

-- what is found at the blocks: nothing if the list of blocks breaks somewhere
abbrev pub of_headers : Bool → List FarAddress → List FarAddress → Option ℕ → List Header → List Finding
of_headers a20 rs ws None headers = flat_map (of_header a20 rs ws) headers
of_headers a20 rs ws (Some at) headers = []

-- what is found of the bytes that the instruction of `length` bytes at CS:IP touches: at the blocks, in the order of
-- the list, which may break at a segment (`broken`), and then by the map
unfoldable pub touch_findings : Guest → Ins → ℕ → Option ℕ → List Header → List Finding
touch_findings g i length broken headers =
    of_headers g.memory.a20 (bytes_of (reads g i length)) (bytes_of (writes g i length)) broken headers
    ++ of_places g.memory (bytes_of (writes g i length))
