-- The lines of `dm check` about the processes of a run. The form is this machine's own.
use Rattle.std.specs.Prelude.{ℕ, nat_lt, if◌then◌else◌, List, [], ◌∷◌, ◌++◌, length, Option, Some, None, codes, decimal}
use Rattle.std.specs.List.{flat_map}
use Rattle.dm_views.specs.Digits.{four_digits}
use Rattle.dm_findings.specs.declared.processes.process.Process.{Process}
use Rattle.dm_findings.specs.processes.Processes.{name_text}

-- the steps from the first to the last; the first alone if the process has not ended (None)
abbrev pub steps_text : ℕ → Option ℕ → List ℕ
steps_text first None = codes ", from step " ++ decimal first
steps_text first (Some last) = codes ", steps " ++ decimal first ++ codes " to " ++ decimal last

-- the line about a process: the segment of its prefix, its name, its parent's prefix, and its steps
unfoldable pub process_line : Process → List ℕ
process_line p =
    codes "process " ++ four_digits p.prefix ++ codes " " ++ name_text p ++ codes ": parent " ++ four_digits p.parent
    ++ steps_text p.first p.last ++ 10 ∷ []

-- a line for each of the processes of a run, in their order; none if there was one process alone
abbrev pub processes_text : List Process → List ℕ
processes_text ps = if nat_lt 1 (length ps) then flat_map process_line ps else []
