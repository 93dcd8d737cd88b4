-- The line of `dm check` about where and why a run stopped. The form is this machine's own.
use Rattle.std.specs.Prelude.{ℕ, Bool, true, false, if◌then◌else◌, List, [], ◌∷◌, ◌++◌, Option, Some, None, codes}
use Rattle.dm_space.specs.Memory.{Memory, linear, peek}
use Rattle.dm_cpu.specs.declared.cpu.Cpu.{Cpu}
use Rattle.dm_cpu.specs.Guest.{up}
use Rattle.dm_services.specs.declared.state.stop.Stop.{Stop}
use Rattle.dm_services.specs.declared.state.stop.Stop.TheVariants as stop
use Rattle.dm_views.specs.Digits.{two_digits, address_text}
use Rattle.dm_findings.specs.declared.calls.Call.{Call}
use Rattle.dm_findings.specs.declared.sites.Site.{Site}
use Rattle.dm_findings.specs.declared.sites.Site.TheVariants.{At, Before}
use Rattle.dm_findings.specs.Calls.{call_of}
use Rattle.dm_findings.specs.Sites.{site_of}
use Rattle.dm_reports.specs.Names.{call_text}

-- whether the run stopped since the program has ended
abbrev pub is_exit : Stop → Bool
is_exit (stop.Exited code) = true
is_exit _ = false

-- why a run stopped, in a word or two
abbrev pub reason_text : Stop → List ℕ
reason_text stop.Steps = codes "steps"
reason_text (stop.Exited code) = codes "exited"
reason_text stop.Halted = codes "halted"
reason_text stop.Unlisted = codes "unlisted"
reason_text stop.InputEnded = codes "input ended"
reason_text stop.Destroyed = codes "destroyed"
reason_text stop.Memory = codes "memory"

-- a place in the program: `at` the address of an instruction, or `before` the return address of a call
abbrev pub stop_site_text : Site → List ℕ
stop_site_text (At segment offset) = codes " at " ++ address_text segment offset
stop_site_text (Before segment offset) = codes " before " ++ address_text segment offset

-- the two bytes at CS:IP
abbrev pub code_bytes_text : Memory → Cpu → List ℕ
code_bytes_text m c =
    codes ": " ++ two_digits (peek m (linear m.a20 c.cs c.ip)) ++ codes " "
    ++ two_digits (peek m (linear m.a20 c.cs (up c.ip 1)))

-- the call that the next step would perform; nothing for an instruction
abbrev pub next_text : Option Call → List ℕ
next_text None = []
next_text (Some call) = codes ": " ++ call_text call

-- what the next step would perform: the bytes at CS:IP that are no instruction, a call, or an instruction, of which
-- nothing is said
abbrev pub what_text : Stop → Memory → Cpu → List ℕ
what_text stop.Unlisted m c = code_bytes_text m c
what_text _ m c = next_text (call_of c)

-- why the run stopped, where in its code the program would have gone on, and what the next step would perform
unfoldable pub stopped_text : Stop → Memory → Cpu → List ℕ
stopped_text why m c = codes "stopped: " ++ reason_text why ++ stop_site_text (site_of m c) ++ what_text why m c ++ 10
    ∷ []

-- the line about a stop, by the memory and the registers then; no text for an exit
abbrev pub stopped_line : Stop → Memory → Cpu → List ℕ
stopped_line why m c = if is_exit why then [] else stopped_text why m c
