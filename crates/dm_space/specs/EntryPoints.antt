-- The entry points (the addresses are this machine's own): where a service or a driver acts in place of code, by CS and
-- IP. The interrupt vectors lead to five (Intel 8086 Family User's Manual, "Interrupt pointer table"): that of INT 67h
-- to F100:0020, the others to the segment F000h at 4 times the interrupt's number. The sixth, for extended memory, is
-- returned by INT 2Fh (XMS 3.0, section "Accessing the extended memory manager").
use Rattle.std.specs.Prelude.{ℕ, ◌==◌, if◌then◌else◌, Option, Some, None}
use Rattle.dm_space.specs.declared.entry_points.Service.TheVariants.{DivideError, Terminate, Dos}
use Rattle.dm_space.specs.declared.entry_points.Driver.TheVariants.{ExpandedMemory, Multiplex, ExtendedMemory}
use Rattle.dm_space.specs.declared.entry_points.EntryPoint.{EntryPoint}
use Rattle.dm_space.specs.declared.entry_points.EntryPoint.TheVariants.{Service, Driver}

-- the segment of all entry points but the expanded memory driver's
abbrev pub entry_segment : ℕ
entry_segment = 0xF000

-- the segment of the expanded memory driver, with its name at offset 000Ah (LIM EMS 4.0)
abbrev pub expanded_memory_segment : ℕ
expanded_memory_segment = 0xF100

-- the offset of F000:0000, the entry point of interrupt 0, which DIV and IDIV take where there is no quotient
abbrev pub divide_error_offset : ℕ
divide_error_offset = 0x0000

-- the offset of F000:0080, the entry point of INT 20h
abbrev pub terminate_offset : ℕ
terminate_offset = 0x0080

-- the offset of F000:0084, the entry point of INT 21h
abbrev pub dos_offset : ℕ
dos_offset = 0x0084

-- the offset of F000:00BC, the entry point of INT 2Fh
abbrev pub multiplex_offset : ℕ
multiplex_offset = 0x00BC

-- the offset of F100:0020, the entry point of INT 67h, the expanded memory driver
abbrev pub expanded_memory_offset : ℕ
expanded_memory_offset = 0x0020

-- the offset of F000:0400, the entry point of the extended memory driver, reached by a far call
abbrev pub extended_memory_offset : ℕ
extended_memory_offset = 0x0400

-- what acts at an offset of the segment F000h, None if nothing does
abbrev pub entry_point_at_offset : ℕ → Option EntryPoint
entry_point_at_offset offset =
    if offset == divide_error_offset then Some (Service DivideError) else
    if offset == terminate_offset then Some (Service Terminate) else
    if offset == dos_offset then Some (Service Dos) else
    if offset == multiplex_offset then Some (Driver Multiplex) else
    if offset == extended_memory_offset then Some (Driver ExtendedMemory) else None

-- what acts at CS:IP, None if nothing does; another segment and offset of the same linear address is no entry point
unfoldable pub entry_point_at : ℕ → ℕ → Option EntryPoint
entry_point_at segment offset =
    if segment == entry_segment then entry_point_at_offset offset else
    if segment == expanded_memory_segment then (if offset == expanded_memory_offset then Some (Driver ExpandedMemory)
    else None) else None
