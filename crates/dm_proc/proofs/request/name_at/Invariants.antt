use Rattle.std.proofs.Common.{◌≡◌, ℕ, ◌<◌, length}
use Rattle.dm_space.specs.EightBytes.{byte_after}
use Rattle.dm_proc.specs.Writes.{bytes_from}
use Rattle.dm_proc.proofs.request.name_at.Given as goal

abbrev pub invariant-loop-at : goal.invariant-loop-at
invariant-loop-at l = record {
  items : l.name.items ≡ bytes_from l.space.memory l.segment l.offset l.at;
  count : length l.name.items ≡ l.at;
  before : (k : ℕ) → k < l.at → byte_after l.space.memory l.segment l.offset k ≡ 0 → ⊥;
}
