use Rattle.std.proofs.Common.{◌≡◌, ◌-◌}
use Rattle.dm_findings.specs.processes.Processes.{first_zero_word}
use Rattle.dm_findings.proofs.processes.process.end_of_variables.Given as goal

abbrev pub invariant-loop-at : goal.invariant-loop-at
invariant-loop-at l = first_zero_word l.space.memory l.segment 0 0x8000 ≡ first_zero_word l.space.memory l.segment l.at
    (0x8000 - l.at)
