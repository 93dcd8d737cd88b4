use Rattle.std.proofs.Common.{◌≡◌, ◌++◌, take, drop}
use Rattle.std.specs.List.{take_while}
use Rattle.dm_findings.specs.processes.Processes.{name_text}
use Rattle.dm_findings.proofs.processes.Naming.{is_of_name}
use Rattle.dm_findings.proofs.processes.process.Process.name.Given as goal

abbrev pub invariant-loop-at : goal.invariant-loop-at
invariant-loop-at l = name_text l.self ≡ take l.at l.self.name_bytes
    ++ take_while is_of_name (drop l.at l.self.name_bytes)
