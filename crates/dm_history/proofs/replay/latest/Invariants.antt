use Rattle.std.proofs.Common.{ℕ, ◌≤◌, take}
use Rattle.std.specs.List.{All}
use Rattle.dm_history.proofs.replay.latest.Given as goal

-- the latest of the edits so far
abbrev pub invariant-loop-edit : goal.invariant-loop-edit
invariant-loop-edit l = record {
  since : l.step ≤ l.latest;
  all : All (λ e. e.step ≤ l.latest) (take l.edit-index l.edits);
  least : (n : ℕ) → l.step ≤ n → All (λ e. e.step ≤ n) l.edits → l.latest ≤ n;
}
