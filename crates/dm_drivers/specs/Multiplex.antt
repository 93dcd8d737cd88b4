-- INT 2Fh, the multiplex interrupt, as far as it serves extended memory (XMS 3.0, section "Accessing the extended
-- memory manager").
use Rattle.std.specs.Prelude.{◌==◌, if◌then◌else◌}
use Rattle.dm_space.specs.EntryPoints.{entry_segment, extended_memory_offset}
use Rattle.dm_ins.specs.declared.operand.ByteRegister.TheVariants.{Al}
use Rattle.dm_cpu.specs.declared.cpu.Cpu.{Cpu}
use Rattle.dm_cpu.specs.Cpu.{with_byte}

-- the registers after INT 2Fh: for AX = 4300h, AL is 80h (the driver is installed); for AX = 4310h, ES:BX is the
-- extended memory driver's entry point; for any other AX, they stay
unfoldable pub multiplex_reply : Cpu → Cpu
multiplex_reply cpu =
    if cpu.ax == 0x4300 then with_byte cpu Al 0x80 else
    if cpu.ax == 0x4310 then record cpu { es = entry_segment; bx = extended_memory_offset } else cpu
