-- The functions of the extended memory driver: XMS 3.0, functions 00h to 12h. Success sets AX to 1, except in 00h, in
-- 08h, and in 07h while A20 is off; an error sets AX to 0 and BL to its code, and, except in 04h and 06h, changes
-- neither tables nor memory. Registers that are not named stay.
use Rattle.std.specs.Prelude.{ℕ, ◌+◌, ◌*◌, ◌/◌, ◌%◌, Bool, ◌==◌, if◌then◌else◌, Result, Ok, Err}
use Rattle.dm_ins.specs.declared.operand.ByteRegister.TheVariants.{Ah, Bl}
use Rattle.dm_cpu.specs.declared.cpu.Cpu.{Cpu}
use Rattle.dm_cpu.specs.Cpu.{byte_of, with_byte}
use Rattle.dm_xms.specs.declared.status.Status.{Status}
use Rattle.dm_xms.specs.declared.tables.Upper.{Upper}
use Rattle.dm_xms.specs.declared.blocks.FreeMemory.{FreeMemory}
use Rattle.dm_xms.specs.declared.blocks.HandleInformation.{HandleInformation}
use Rattle.dm_xms.specs.declared.uppers.UpperRefusal.TheVariants as refusal
use Rattle.dm_xms.specs.Status.{code_of}
use Rattle.dm_xms.specs.Area as area
use Rattle.dm_xms.specs.Line as line
use Rattle.dm_xms.specs.Blocks as blocks
use Rattle.dm_xms.specs.Moves.{move_memory}
use Rattle.dm_xms.specs.Uppers.{request_upper, release_upper, resize_upper}
use Rattle.dm_drivers.specs.declared.extended.functions.Function.{Function}
use Rattle.dm_drivers.specs.declared.extended.functions.Function.TheVariants.{Version, TakeArea, ReleaseArea, EnableGlobally, DisableGlobally, EnableLocally, DisableLocally, Line, FreeSize, Allocate, Deallocate, MoveMemory, Lock, Unlock, Information, Reallocate, RequestUpper, ReleaseUpper, ResizeUpper, Unknown}
use Rattle.dm_drivers.specs.extended.Caller.{Caller, on_cpu, succeeded, refused, settled, after_call, after_tables, after_act}
use Rattle.dm_drivers.specs.extended.Uppers as uppers

-- the registers after 08h: AX is the largest gap, DX all gaps, in KiB, and BL is 0; after an error AX and DX are 0,
-- and BL is its code; the other registers stay
abbrev pub with_free : Cpu → Result FreeMemory Status → Cpu
with_free cpu (Ok free) = with_byte (record cpu { ax = free.largest; dx = free.total }) Bl 0
with_free cpu (Err e) = with_byte (record cpu { ax = 0; dx = 0 }) Bl (code_of e)

-- the registers with a linear address in DX:BX, its high word in DX, as 0Ch returns it; the others stay
abbrev pub with_address : Cpu → ℕ → Cpu
with_address cpu address = record cpu { dx = address / 65536 % 65536; bx = address % 65536 }

-- the registers with BH as the number of locks, BL that of the handles that are not in use, and DX the size in KiB, as
-- 0Eh returns them
abbrev pub with_information : Cpu → HandleInformation → Cpu
with_information cpu i = record cpu { bx = i.locks * 256 + i.free; dx = i.kib }

-- the function of the extended memory driver with a number, which calls have in AH; `Unknown` for a number that the
-- driver does not have
abbrev pub function_of : ℕ → Function
function_of number =
    if number == 0x00 then Version else
    if number == 0x01 then TakeArea else
    if number == 0x02 then ReleaseArea else
    if number == 0x03 then EnableGlobally else
    if number == 0x04 then DisableGlobally else
    if number == 0x05 then EnableLocally else
    if number == 0x06 then DisableLocally else
    if number == 0x07 then Line else
    if number == 0x08 then FreeSize else
    if number == 0x09 then Allocate else
    if number == 0x0A then Deallocate else
    if number == 0x0B then MoveMemory else
    if number == 0x0C then Lock else
    if number == 0x0D then Unlock else
    if number == 0x0E then Information else
    if number == 0x0F then Reallocate else
    if number == 0x10 then RequestUpper else
    if number == 0x11 then ReleaseUpper else
    if number == 0x12 then ResizeUpper else Unknown

-- the registers, tables and memory after a function. Where upper memory belongs to the arena of DOS (`upper`), the
-- driver has none: to request a block fails with B1h, to release or resize one with B2h
unfoldable pub call : Bool → Caller → Function → Caller
-- AX is version 3.0, BX the driver's own revision, 1, and DX is 1, as there is a high memory area
call upper c Version = on_cpu c (record c.cpu { ax = 0x0300; bx = 1; dx = 1 })
-- the high memory area is taken; error 91h if it is taken already
call upper c TakeArea = after_tables c (area.take_area c.x.xms) (λ done. c.cpu)
-- the high memory area is released; error 93h if it is not taken
call upper c ReleaseArea = after_tables c (area.release_area c.x.xms) (λ done. c.cpu)
-- the global switch is turned on, and so is A20
call upper c EnableGlobally = record { cpu = succeeded c.cpu; x = line.enable_globally c.x }
-- the global switch is turned off, and A20 too where the local count is 0; else error 94h, though the switch is off
call upper c DisableGlobally = after_act c (line.disable_globally c.x)
-- the local count goes up by one, and A20 is on; at FFFFh error 82h, and count and A20 stay
call upper c EnableLocally = after_call c (line.enable_locally c.x) (λ done. c.cpu)
-- the local count goes down by one, and A20 is off where the count is then 0 and the global switch is off; else error
-- 94h, though the count is one less. At 0 error 82h, and count and A20 stay
call upper c DisableLocally = after_act c (line.disable_locally c.x)
-- AX is 1 where A20 is on; where it is off, AX and BL are 0. A20 stays
call upper c Line = on_cpu c (if c.x.memory.a20 then succeeded c.cpu else refused c.cpu 0)
-- AX is the largest gap of the pool, DX all gaps together, in KiB, FFFFh at most, and BL is 0; where nothing is free AX
-- and DX are 0, and BL is the error code A0h
call upper c FreeSize = on_cpu c (with_free c.cpu (blocks.free_memory c.x))
-- a new block of DX KiB, all zeros, is allocated, and DX becomes its handle
call upper c Allocate = after_call c (blocks.allocate c.x c.cpu.dx) (λ handle. record c.cpu { dx = handle })
-- the handle in DX and its block are freed
call upper c Deallocate = after_call c (blocks.deallocate c.x c.cpu.dx) (λ done. c.cpu)
-- memory is moved as the structure at DS:SI says
call upper c MoveMemory = after_call c (move_memory c.x c.cpu.ds c.cpu.si) (λ done. c.cpu)
-- the block of the handle in DX gets one lock more, and DX:BX becomes the linear address of its first byte; 110000h for
-- a block of 0 KiB
call upper c Lock = after_call c (blocks.lock c.x c.cpu.dx) (with_address c.cpu)
-- the block of the handle in DX gets one lock less
call upper c Unlock = after_tables c (blocks.unlock c.x.xms c.cpu.dx) (λ done. c.cpu)
-- BH is the number of locks of the block of the handle in DX, BL the number of handles that are not in use, DX the
-- block's size in KiB
call upper c Information = on_cpu c (settled c.cpu (blocks.information c.x.xms c.cpu.dx) (with_information c.cpu))
-- the size of the block of the handle in DX becomes BX KiB; the block may move, its bytes up to the smaller size stay
call upper c Reallocate = after_call c (blocks.reallocate c.x c.cpu.dx c.cpu.bx) (λ done. c.cpu)
-- a new block of DX paragraphs, or of 1 if DX is 0; BX becomes its segment, DX its size in paragraphs
call upper c RequestUpper = uppers.after_call c (if upper then Err refusal.NoneFree else
    request_upper c.x.xms c.cpu.dx) (λ (u : Upper). record c.cpu { bx = u.segment; dx = u.paragraphs })
-- the block that begins at segment DX is freed
call upper c ReleaseUpper = uppers.after_call c (if upper then Err refusal.Unknown else
    release_upper c.x.xms c.cpu.dx) (λ done. c.cpu)
-- the size of the block that begins at segment DX becomes BX paragraphs, or 1 if BX is 0; after error B0h the block
-- stays, and DX is the largest size that it can have there
call upper c ResizeUpper = uppers.after_call c (if upper then Err refusal.Unknown else
    resize_upper c.x.xms c.cpu.dx c.cpu.bx) (λ done. c.cpu)
-- the driver does not have the function: AX is 0, and BL the error code 80h
call upper c Unknown = on_cpu c (refused c.cpu 0x80)

-- the registers, tables and memory after a call of the driver: after the function whose number is in AH
abbrev pub dispatched : Bool → Caller → Caller
dispatched upper c = call upper c (function_of (byte_of c.cpu Ah))
