-- Where in its code a program performs a step: an instruction at CS:IP, a call at its caller.
-- Source: Intel 8086 Family User's Manual, section 2.6 (the return address of an interrupt is pushed after FLAGS, and
-- so stands at SS:SP) and section 2.7, INT (CDh and the number); XMS 3.0, "Accessing the extended memory manager" (a
-- far call).
use Rattle.std.specs.Prelude.{ℕ, ◌==◌, if◌then◌else◌, Option, Some, None}
use Rattle.dm_space.specs.Memory.{Memory, linear, peek, peek16}
use Rattle.dm_cpu.specs.declared.cpu.Cpu.{Cpu}
use Rattle.dm_cpu.specs.Guest.{up, down}
use Rattle.dm_findings.specs.declared.calls.Call.{Call}
use Rattle.dm_findings.specs.declared.calls.Call.TheVariants.{ExtendedMemory}
use Rattle.dm_findings.specs.declared.sites.Site.{Site}
use Rattle.dm_findings.specs.declared.sites.Site.TheVariants.{At, Before}
use Rattle.dm_findings.specs.Calls.{call_of}

-- the first byte of INT, whose second is the number of the interrupt
abbrev pub int_opcode : ℕ
int_opcode = 0xCD

-- where a call with this return address was made: at the INT two bytes before it, if its first byte stands there; else
-- before the return address, as the instruction of an interrupt that is no INT. Offsets wrap
abbrev pub interrupted_at : Memory → ℕ → ℕ → Site
interrupted_at m segment offset =
    if peek m (linear m.a20 segment (down offset 2)) == int_opcode then At segment (down offset 2) else
    Before segment offset

-- where a call with this return address was made; a call of the extended memory driver is a far call, no INT
abbrev pub called_at : Memory → ℕ → ℕ → Call → Site
called_at m segment offset (ExtendedMemory number) = Before segment offset
called_at m segment offset _ = interrupted_at m segment offset

-- where a step with these registers and this call, or None, is performed: at CS:IP if an instruction comes next; a call
-- where it was made, by the return address on the stack, IP at SS:SP and CS behind it
abbrev pub site_by : Memory → Cpu → Option Call → Site
site_by m c None = At c.cs c.ip
site_by m c (Some call) = called_at m (peek16 m c.ss (up c.sp 2)) (peek16 m c.ss c.sp) call

-- where in its code the program performs the step that comes next
abbrev pub site_of : Memory → Cpu → Site
site_of m c = site_by m c (call_of c)
