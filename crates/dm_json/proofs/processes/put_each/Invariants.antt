use Rattle.std.specs.Prelude.{◌≡◌, ◌++◌, take}
use Rattle.std.specs.List.{flat_map}
use Rattle.dm_json.specs.Processes.{process_object}
use Rattle.dm_json.proofs.processes.put_each.Given as goal

-- the lines of the processes so far
abbrev pub invariant-loop-process : goal.invariant-loop-process
invariant-loop-process l = l.out.items ≡ l.initial.out.items
    ++ flat_map process_object (take l.process-index l.processes)
