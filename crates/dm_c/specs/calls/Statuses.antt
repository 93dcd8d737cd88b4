-- Statuses, stops, registers and breakpoints as C sees them.
use Rattle.std.specs.Prelude.{ℕ, Option, Some, None}
use Rattle.dm_services.specs.declared.state.stop.Stop.{Stop}
use Rattle.dm_services.specs.declared.state.stop.Stop.TheVariants as stop
use Rattle.dm_alu.specs.Flags as flags
use Rattle.dm_cpu.specs.declared.cpu.Cpu.{Cpu}
use Rattle.dm_machine.specs.declared.until.Breakpoint.{Breakpoint}
use Rattle.dm_host.specs.declared.refusal.Refusal.{Refusal}
use Rattle.dm_host.specs.declared.refusal.Refusal.TheVariants as why
use Rattle.dm_c.specs.declared.calls.values.Stopped.{Stopped}
use Rattle.dm_c.specs.declared.calls.values.Registers.{Registers}
use Rattle.dm_c.specs.declared.calls.values.Point.{Point}

-- the status of a refusal of `dm_host`. Other statuses: 0 success, 1 no machine in the handle, 2 a handle in use, 4 a
-- buffer too small, 17 to 21 those of `text_status_of`
abbrev pub status_of : Refusal → ℕ
status_of why.Memory = 3
status_of why.TooLarge = 5
status_of why.VariablesTooLong = 6
status_of why.BadName = 7
status_of why.NameTwice = 8
status_of why.Started = 9
status_of why.TailTooLong = 10
status_of why.NotFound = 11
status_of why.BadFormat = 12
status_of why.Short = 13
status_of why.NotLoaded = 14
status_of why.Syntax = 15
status_of why.Full = 16
status_of why.InputClosed = 22
status_of why.NoHandle = 26
status_of why.NoPage = 27
status_of why.PastEnd = 28
status_of why.NoFinding = 29

-- a stop as C sees it: its number, and the exit code, 0 for any stop but `Exited`; None is a breakpoint
abbrev pub stopped_of : Option Stop → Stopped
stopped_of (Some stop.Steps) = record { why = 0; code = 0 }
stopped_of (Some (stop.Exited code)) = record { why = 1; code = code }
stopped_of (Some stop.Halted) = record { why = 2; code = 0 }
stopped_of (Some stop.Unlisted) = record { why = 3; code = 0 }
stopped_of (Some stop.InputEnded) = record { why = 4; code = 0 }
stopped_of (Some stop.Destroyed) = record { why = 5; code = 0 }
stopped_of (Some stop.Memory) = record { why = 6; code = 0 }
stopped_of None = record { why = 7; code = 0 }

-- the registers as C sees them; `flags` is the word that PUSHF stores
abbrev pub registers_of : Cpu → Registers
registers_of cpu = record {
  ax = cpu.ax;
  bx = cpu.bx;
  cx = cpu.cx;
  dx = cpu.dx;
  sp = cpu.sp;
  bp = cpu.bp;
  si = cpu.si;
  di = cpu.di;
  cs = cpu.cs;
  ds = cpu.ds;
  es = cpu.es;
  ss = cpu.ss;
  ip = cpu.ip;
  flags = flags.flags_word cpu.flags;
}

-- the registers and flags that C passes; of the flags' word only the bits of the nine flags count
abbrev pub cpu_of : Registers → Cpu
cpu_of registers = record {
  ax = registers.ax;
  bx = registers.bx;
  cx = registers.cx;
  dx = registers.dx;
  sp = registers.sp;
  bp = registers.bp;
  si = registers.si;
  di = registers.di;
  cs = registers.cs;
  ds = registers.ds;
  es = registers.es;
  ss = registers.ss;
  ip = registers.ip;
  flags = flags.flags_of registers.flags;
}

-- the breakpoint at the exact pair of CS and IP that C passes
abbrev pub point_of : Point → Breakpoint
point_of p = record { segment = p.segment; offset = p.offset }
