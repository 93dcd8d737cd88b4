use Rattle.std.proofs.Common.{◌≡◌, ◌+◌, length, min, take}
use Rattle.dm_host.specs.Linear.{bytes_at_linear}
use Rattle.dm_host.proofs.linear.read_up.Given as goal

-- the first bytes are read; how many there are stays; the address stays at the greatest number of 32 bits
abbrev pub invariant-loop-place : goal.invariant-loop-place
invariant-loop-place l = record {
  read : take l.place l.buffer ≡ bytes_at_linear l.machine.memory l.address l.place;
  long : length l.buffer ≡ length l.initial.buffer;
  at_is : l.at ≡ min (l.address + l.place) 0xFFFFFFFF;
}
