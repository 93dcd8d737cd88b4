use Rattle.std.proofs.Common.{◌≡◌, drop}
use Rattle.dm_debug.specs.Sessions.{with_machine}
use Rattle.dm_host.specs.Linear.{with_bytes_at_linear}
use Rattle.dm_host.proofs.linear.write_up.Given as goal

-- what is left to be written leads from here to where all of it leads; nothing but memory has changed
abbrev pub invariant-loop-byte : goal.invariant-loop-byte
invariant-loop-byte l = record {
  left : with_bytes_at_linear l.session.machine.memory l.at (drop l.byte-index l.bytes)
      ≡ with_bytes_at_linear l.initial.session.machine.memory l.initial.at l.bytes;
  others : l.session ≡ with_machine l.initial.session (record l.initial.session.machine
      { memory = l.session.machine.memory });
}
