use Rattle.std.proofs.Common.{◌≡◌, length, take}
use Rattle.dm_findings.specs.processes.Processes.{bytes_after}
use Rattle.dm_findings.proofs.processes.process.name_at.Given as goal

abbrev pub invariant-loop-at : goal.invariant-loop-at
invariant-loop-at l = record {
  length : length l.name ≡ 64;
  items : take l.at l.name ≡ bytes_after l.space.memory l.segment l.offset l.at;
}
