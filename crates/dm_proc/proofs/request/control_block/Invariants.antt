use Rattle.std.proofs.Common.{◌≡◌, length, take}
use Rattle.dm_proc.specs.Writes.{bytes_from}
use Rattle.dm_proc.proofs.request.control_block.Given as goal

abbrev pub invariant-loop-at : goal.invariant-loop-at
invariant-loop-at l = record {
  length : length l.block ≡ 16;
  items : take l.at l.block ≡ bytes_from l.space.memory l.pointer.segment l.pointer.offset l.at;
}
