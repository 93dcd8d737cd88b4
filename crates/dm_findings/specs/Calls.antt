-- The calls of services and drivers: MS-DOS Programmer's Reference, "System Calls"; LIM EMS 4.0, section 3; XMS 3.0.
use Rattle.std.specs.Prelude.{ℕ, ◌/◌, ◌%◌, ◌==◌, ◌&&◌, nat_lt, Bool, if◌then◌else◌, Option, Some, None}
use Rattle.dm_ins.specs.declared.operand.ByteRegister.TheVariants.{Ah}
use Rattle.dm_cpu.specs.declared.cpu.Cpu.{Cpu}
use Rattle.dm_cpu.specs.Cpu.{byte_of}
use Rattle.dm_space.specs.declared.entry_points.Service.{Service}
use Rattle.dm_space.specs.declared.entry_points.Service.TheVariants as service
use Rattle.dm_space.specs.declared.entry_points.Driver.{Driver}
use Rattle.dm_space.specs.declared.entry_points.Driver.TheVariants as driver
use Rattle.dm_space.specs.declared.entry_points.EntryPoint.{EntryPoint}
use Rattle.dm_space.specs.declared.entry_points.EntryPoint.TheVariants as entry_point
use Rattle.dm_space.specs.EntryPoints.{entry_point_at}
use Rattle.dm_findings.specs.declared.calls.Call.{Call}
use Rattle.dm_findings.specs.declared.calls.Call.TheVariants as call

-- the call of a service, by the registers: for INT 21h, the function in AH
abbrev pub of_service : Cpu → Service → Call
of_service c service.DivideError = call.DivideError
of_service c service.Terminate = call.Terminate
of_service c service.Dos = call.Dos (byte_of c Ah)

-- the call of a driver, by the registers: for INT 67h and the extended memory driver, the function in AH; for INT 2Fh,
-- no number
abbrev pub of_driver : Cpu → Driver → Call
of_driver c driver.ExpandedMemory = call.ExpandedMemory (byte_of c Ah)
of_driver c driver.Multiplex = call.Multiplex
of_driver c driver.ExtendedMemory = call.ExtendedMemory (byte_of c Ah)

-- whether CS:IP is the return (IRET) to which the ROM leads an interrupt that nothing serves: F000:4n for interrupt n
abbrev pub is_bare_return : ℕ → ℕ → Bool
is_bare_return segment offset = (segment == 0xF000) && nat_lt offset 0x400 && (offset % 4 == 0)

-- the call where there is no entry point: that of an interrupt that nothing serves; else None
abbrev pub bare_call : Cpu → Option Call
bare_call c = if is_bare_return c.cs c.ip then Some (call.Interrupt (c.ip / 4)) else None

-- the call at an entry point, or where there is none
abbrev pub call_at : Cpu → Option EntryPoint → Option Call
call_at c (Some (entry_point.Service s)) = Some (of_service c s)
call_at c (Some (entry_point.Driver d)) = Some (of_driver c d)
call_at c None = bare_call c

-- the call that a step with these registers performs: that of the service or driver whose entry point is CS:IP, or of
-- an interrupt that nothing serves and whose return is at CS:IP; None where another instruction comes next
unfoldable pub call_of : Cpu → Option Call
call_of c = call_at c (entry_point_at c.cs c.ip)
