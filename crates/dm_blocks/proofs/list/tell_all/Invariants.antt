use Rattle.std.proofs.Common.{◌≡◌, ◌≤◌, ℕ, Some}
use Rattle.dm_blocks.specs.inner.Reading.{steps_left}
use Rattle.dm_blocks.proofs.list.tell_all.Given as goal

abbrev pub invariant-walk : goal.invariant-walk
invariant-walk l = record {
  memory : l.headers.memory ≡ l.initial.headers.memory;
  second : l.headers.second ≡ l.initial.headers.second;
  stands : (t : ℕ) × (l.headers.at ≡ Some t) × (t ≤ 0xFFFF);
}

abbrev pub decreases-walk : goal.decreases-walk
decreases-walk l = steps_left l.headers.at
