-- Which calls start and end processes.
-- Source: MS-DOS Programmer's Reference, functions 00h, 31h, 4Bh and 4Ch, interrupts 20h and 0.
use Rattle.std.specs.Prelude.{◌&&◌, not, Bool, true, false, Option, Some}
use Rattle.dm_cpu.specs.declared.cpu.Cpu.{Cpu}
use Rattle.dm_services.specs.Functions.{function_of}
use Rattle.dm_findings.specs.declared.calls.Call.{Call}
use Rattle.dm_findings.specs.declared.calls.Call.TheVariants.{DivideError, Terminate, Dos}
use Rattle.dm_origins.specs.outcomes.Calls.{is_ending, is_starting}

-- whether a call started a process, by the registers before and after it: 4Bh with CF clear, but not with AL = 3, which
-- loads an overlay
abbrev pub has_started : Cpu → Cpu → Option Call → Bool
has_started c d (Some (Dos number)) = is_starting c (function_of number) && not d.flags.carry
has_started c d _ = false

-- whether a call is one that ends a process
abbrev pub ends_process : Option Call → Bool
ends_process (Some DivideError) = true
ends_process (Some Terminate) = true
ends_process (Some (Dos number)) = is_ending (function_of number)
ends_process _ = false
