use Rattle.std.proofs.Common.{◌≡◌, ℕ, ◌-◌, ◌<◌, true, false, take}
use Rattle.dm_proc.specs.Environment.{byte_at_offset, IsEnd}
use Rattle.dm_proc.specs.Writes.{bytes_from}
use Rattle.dm_proc.proofs.environment.read_environment.Given as goal

abbrev pub invariant-loop-at : goal.invariant-loop-at
invariant-loop-at l = record {
  memory : l.space.memory ≡ l.initial.space.memory;
  read : take l.at l.space.scratch ≡ bytes_from l.initial.space.memory l.segment 0 l.at;
  none : (k : ℕ) → k < l.at → IsEnd l.initial.space.memory l.segment k → ⊥;
  start : l.is_start ≡ true → 0 < l.at → byte_at_offset l.initial.space.memory l.segment (l.at - 1) ≡ 0;
  middle : l.is_start ≡ false → (0 < l.at) × (byte_at_offset l.initial.space.memory l.segment (l.at - 1) ≡ 0 → ⊥);
}
