-- The lines of `dm check --json` about the processes of a run. The members are this machine's own.
use Rattle.std.specs.Prelude.{ℕ, nat_lt, if◌then◌else◌, List, [], ◌++◌, length, Option, Some, None, codes}
use Rattle.std.specs.List.{flat_map}
use Rattle.dm_findings.specs.declared.processes.process.Process.{Process}
use Rattle.dm_findings.specs.processes.Processes.{name_text}
use Rattle.dm_json.specs.Objects.{object_end, number_member, opening, string_member}

-- the last step of a process; nothing if it has not ended (None)
abbrev pub last_member : Option ℕ → List ℕ
last_member None = []
last_member (Some last) = number_member (codes "last") last

-- the line about a process: the segment of its prefix, its name, its parent's prefix, and its first and last step
unfoldable pub process_object : Process → List ℕ
process_object p =
    opening (codes "process") ++ number_member (codes "process") p.prefix ++ string_member (codes "name") (name_text p)
    ++ number_member (codes "parent") p.parent
    ++ number_member (codes "first") p.first ++ last_member p.last ++ object_end

-- a line for each of the processes of a run, in their order; none if there was one process alone
abbrev pub process_objects : List Process → List ℕ
process_objects ps = if nat_lt 1 (length ps) then flat_map process_object ps else []
