use Rattle.std.proofs.Common.{◌≡◌, ◌≢◌, ◌-◌, ◌<◌, ◌≤◌, ℕ, get_or}
use Rattle.dm_cli.proofs.names.last_part.Given as goal

-- `start` is behind the last `/` before `at`
abbrev pub invariant-loop-at : goal.invariant-loop-at
invariant-loop-at l = record {
  within : l.start ≤ l.at;
  behind : 0 < l.start → get_or l.bytes (l.start - 1) 0 ≡ 47;
  none_since : (k : ℕ) → l.start ≤ k → k < l.at → get_or l.bytes k 0 ≢ 47;
}
