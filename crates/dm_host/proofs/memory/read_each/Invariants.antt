use Rattle.std.proofs.Common.{◌≡◌, ◌+◌, ◌%◌, length, take}
use Rattle.dm_host.specs.Memory.{bytes_at}
use Rattle.dm_host.proofs.memory.read_each.Given as goal

-- the first bytes are read; the others, and how many there are, stay
abbrev pub invariant-loop-place : goal.invariant-loop-place
invariant-loop-place l = record {
  read : take l.place l.buffer ≡ bytes_at l.machine.memory l.segment l.offset l.place;
  long : length l.buffer ≡ length l.initial.buffer;
  at_is : l.at ≡ (l.offset + l.place) % 65536;
}
