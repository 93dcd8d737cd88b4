-- The functions of INT 67h: LIM EMS 4.0, section 3. AH is the status, 0 for success; registers that are not named stay.
-- An error sets AH alone, except in 51h, and changes neither tables nor memory. (92h
-- is no error.)
use Rattle.std.specs.Prelude.{ℕ, ◌==◌, if◌then◌else◌, Option, Some, None}
use Rattle.std.specs.Option.{option_map_or}
use Rattle.dm_ins.specs.declared.operand.ByteRegister.TheVariants.{Al, Ah}
use Rattle.dm_cpu.specs.declared.cpu.Cpu.{Cpu}
use Rattle.dm_cpu.specs.Cpu.{byte_of, with_byte}
use Rattle.dm_ems.specs.declared.status.Status.TheVariants.{NoSubfunction}
use Rattle.dm_ems.specs.Status.{code_of}
use Rattle.dm_ems.specs.Tables.{unallocated}
use Rattle.dm_ems.specs.Handles as handles
use Rattle.dm_ems.specs.Maps as windows
use Rattle.dm_ems.specs.Names as names
use Rattle.dm_ems.specs.Frame.{list_frame}
use Rattle.dm_ems_move.specs.declared.reallocation.Reallocated.{Reallocated}
use Rattle.dm_ems_move.specs.Reallocation.{reallocate}
use Rattle.dm_ems_move.specs.Maps.{whole_map}
use Rattle.dm_ems_move.specs.Many.{map_many}
use Rattle.dm_ems_move.specs.RegionMoves.{move_region, exchange_region, moved_code}
use Rattle.dm_drivers.specs.declared.expanded.functions.Function.{Function}
use Rattle.dm_drivers.specs.declared.expanded.functions.Function.TheVariants.{Status, Frame, PageCounts, Allocate, MapPage, Deallocate, Version, SaveMap, RestoreMap, CountHandles, CountPages, ListPages, WholeMap, MapMany, Reallocate, HandleName, Directory, Regions, Mappable, Unknown}
use Rattle.dm_drivers.specs.expanded.Caller.{Caller, with_status, on_cpu, succeeded, refused, settled, after_call, after_call_with_status, after_list}

-- the registers after 4Eh, but for AH: AL is the size of a map where the call returns it, else all stay
abbrev pub numbered : Cpu → Option ℕ → Cpu
numbered cpu None = cpu
numbered cpu (Some n) = with_byte cpu Al n

-- the registers after 51h for a handle in use: BX is its number of pages, also where it could not be changed, and AH
-- is the status: that of the error, 0 if there is none
abbrev pub recounted : Cpu → Reallocated → Cpu
recounted cpu r = with_status (record cpu { bx = r.pages }) (option_map_or code_of r.refused 0)

-- 53h, by the number in AL; status 8Fh for another one
unfoldable pub handle_name : Caller → ℕ → Caller
handle_name c number =
    -- 0: the eight bytes of the name of the handle in DX are written at ES:DI
    if number == 0 then after_call c (names.get_name c.x c.cpu.dx c.cpu.es c.cpu.di) (λ done. c.cpu) else
    -- 1: the handle in DX gets the name at DS:SI, eight bytes
    if number == 1 then after_call c (names.set_name c.x c.cpu.dx c.cpu.ds c.cpu.si) (λ done. c.cpu) else
    on_cpu c (refused c.cpu NoSubfunction)

-- 54h, by the number in AL; status 8Fh for another one
unfoldable pub directory : Caller → ℕ → Caller
directory c number =
    -- 0: the handles in use and their names are written at ES:DI, a word and eight bytes each; AL is the number of
    -- handles in use
    if number == 0 then after_list c (names.list_names c.x c.cpu.es c.cpu.di) (with_byte c.cpu Al) else
    -- 1: DX becomes the lowest handle with the name at DS:SI; where no handle has it, or it is eight zeros, DX stays
    if number == 1 then on_cpu c (settled c.cpu (names.find_name c.x c.cpu.ds c.cpu.si)
    (λ handle. record c.cpu { dx = handle })) else
    -- 2: BX is the number of all handles, 64
    if number == 2 then on_cpu c (succeeded (record c.cpu { bx = 64 })) else
    on_cpu c (refused c.cpu NoSubfunction)

-- 57h, by the number in AL; status 8Fh for another one. Two regions, as the structure of 18 bytes at DS:SI describes
-- them, overlap where they share a byte of memory or ROM
unfoldable pub regions : Caller → ℕ → Caller
regions c number =
    -- 0: the source is copied to the destination; AH is 92h where they overlap and are of one type, that is, both
    -- conventional memory or both pages
    if number == 0 then after_call_with_status c (move_region c.x c.cpu.ds c.cpu.si)
    (λ how. with_status c.cpu (moved_code how)) else
    -- 1: the two regions exchange their bytes; an error where they overlap
    if number == 1 then after_call c (exchange_region c.x c.cpu.ds c.cpu.si) (λ done. c.cpu) else
    on_cpu c (refused c.cpu NoSubfunction)

-- 58h, by the number in AL; status 8Fh for another one
unfoldable pub mappable : Caller → ℕ → Caller
mappable c number =
    -- 0: the segments and numbers of the windows are written at ES:DI, 16 bytes, and CX is the number of windows, 4
    if number == 0 then record { cpu = succeeded (record c.cpu { cx = 4 }); x = list_frame c.x c.cpu.es c.cpu.di } else
    -- 1: CX is the number of windows, 4
    if number == 1 then on_cpu c (succeeded (record c.cpu { cx = 4 })) else
    on_cpu c (refused c.cpu NoSubfunction)

-- the function of INT 67h with a number, which calls have in AH; `Unknown` for a number that the driver does not have
abbrev pub function_of : ℕ → Function
function_of number =
    if number == 0x40 then Status else
    if number == 0x41 then Frame else
    if number == 0x42 then PageCounts else
    if number == 0x43 then Allocate else
    if number == 0x44 then MapPage else
    if number == 0x45 then Deallocate else
    if number == 0x46 then Version else
    if number == 0x47 then SaveMap else
    if number == 0x48 then RestoreMap else
    if number == 0x4B then CountHandles else
    if number == 0x4C then CountPages else
    if number == 0x4D then ListPages else
    if number == 0x4E then WholeMap else
    if number == 0x50 then MapMany else
    if number == 0x51 then Reallocate else
    if number == 0x53 then HandleName else
    if number == 0x54 then Directory else
    if number == 0x57 then Regions else
    if number == 0x58 then Mappable else Unknown

-- the registers, tables and memory after a function
unfoldable pub call : Caller → Function → Caller
-- AH is 0, as the driver is there
call c Status = on_cpu c (succeeded c.cpu)
-- BX is the frame's segment
call c Frame = on_cpu c (succeeded (record c.cpu { bx = 0xE000 }))
-- BX is the number of pages that can still be allocated, DX the number of all pages
call c PageCounts = on_cpu c (succeeded (record c.cpu { bx = unallocated c.x; dx = c.x.ems.total }))
-- a new handle with BX pages of zeros is allocated, and DX becomes its number
call c Allocate = after_call c (handles.allocate c.x c.cpu.bx) (λ handle. record c.cpu { dx = handle })
-- window AL shows logical page BX of the handle in DX, or nothing for page FFFFh; the other windows stay
call c MapPage = after_call c (windows.map_page c.x (byte_of c.cpu Al) c.cpu.bx c.cpu.dx) (λ done. c.cpu)
-- the handle in DX and its pages are freed; handle 0 stays in use
call c Deallocate = after_call c (handles.deallocate c.x c.cpu.dx) (λ done. c.cpu)
-- AL is the version, 40h for 4.0
call c Version = on_cpu c (succeeded (with_byte c.cpu Al 0x40))
-- what the four windows show is saved under the handle in DX
call c SaveMap = after_call c (windows.save_map c.x c.cpu.dx) (λ done. c.cpu)
-- the four windows show what was saved under the handle in DX, which then has nothing saved
call c RestoreMap = after_call c (windows.restore_map c.x c.cpu.dx) (λ done. c.cpu)
-- BX is the number of handles in use, handle 0 among them
call c CountHandles = on_cpu c (succeeded (record c.cpu { bx = handles.in_use c.x }))
-- BX is the number of pages of the handle in DX
call c CountPages = on_cpu c (settled c.cpu (handles.count_pages c.x c.cpu.dx) (λ pages. record c.cpu { bx = pages }))
-- for each handle in use its number and its number of pages are written at ES:DI, two words; BX is the number of
-- handles in use
call c ListPages = after_list c (names.list_pages c.x c.cpu.es c.cpu.di) (λ count. record c.cpu { bx = count })
-- with AL = 0 the map of the windows is written at ES:DI, with 1 they are set from the map at DS:SI, with 2 the map at
-- DS:SI is read, that of the windows written at ES:DI, and then they are set, and with 3 AL becomes the size of a map
-- in bytes, 16; status 8Fh for another value
call c WholeMap = after_call c (whole_map c.x (byte_of c.cpu Al) c.cpu.es c.cpu.di c.cpu.ds c.cpu.si) (numbered c.cpu)
-- windows show pages of the handle in DX, or nothing, as CX pairs at DS:SI say, which name windows by number
-- (AL = 0) or by segment (AL = 1); the other windows stay. Status 8Fh for another value of AL
call c MapMany = after_call c (map_many c.x (byte_of c.cpu Al) c.cpu.dx c.cpu.cx c.cpu.ds c.cpu.si) (λ done. c.cpu)
-- the handle in DX gets BX pages in all, and BX becomes its number of pages. If there are not enough, the handle keeps
-- its pages, and BX is their number; if it is not in use, BX stays
call c Reallocate = after_call_with_status c (reallocate c.x c.cpu.dx c.cpu.bx) (recounted c.cpu)
-- the subfunction whose number is in AL
call c HandleName = handle_name c (byte_of c.cpu Al)
call c Directory = directory c (byte_of c.cpu Al)
call c Regions = regions c (byte_of c.cpu Al)
call c Mappable = mappable c (byte_of c.cpu Al)
-- the driver does not have the function: AH is status 84h
call c Unknown = on_cpu c (with_status c.cpu 0x84)

-- the registers, tables and memory after INT 67h: after the function whose number is in AH
abbrev pub dispatched : Caller → Caller
dispatched c = call c (function_of (byte_of c.cpu Ah))
