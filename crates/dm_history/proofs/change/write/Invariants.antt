use Rattle.std.proofs.Common.{◌≡◌, drop}
use Rattle.dm_history.proofs.Writing.{each}
use Rattle.dm_history.proofs.change.write.Given as goal

-- what is left to be written leads from here to where all of it leads; nothing but memory has changed
abbrev pub invariant-loop-byte : goal.invariant-loop-byte
invariant-loop-byte l = record {
  left : each l.machine.memory l.segment l.at (drop l.byte-index l.bytes)
      ≡ each l.initial.machine.memory l.segment l.initial.at l.bytes;
  others : l.machine ≡ record l.initial.machine { memory = l.machine.memory };
}
