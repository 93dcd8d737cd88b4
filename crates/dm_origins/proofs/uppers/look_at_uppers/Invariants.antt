use Rattle.std.proofs.Common.{◌≡◌, ℕ, ◌<◌, ◌≤◌, length, get_or, None}
use Rattle.std.specs.Prelude.{slice_get}
use Rattle.dm_origins.specs.Origins.{upper_since}
use Rattle.dm_origins.proofs.uppers.look_at_uppers.Given as goal

abbrev pub invariant-loop-number : goal.invariant-loop-number
invariant-loop-number l = record {
  count : length l.known ≡ length l.initial.known;
  done : (k : ℕ) → k < l.number → get_or l.known k None ≡ upper_since l.before l.origin (slice_get l.xms.uppers k);
  left : (k : ℕ) → l.number ≤ k → get_or l.known k None ≡ get_or l.initial.known k None;
}
