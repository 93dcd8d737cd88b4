use Rattle.std.proofs.Common.{◌≡◌, ◌+◌, ◌-◌, ◌≤◌}
use Rattle.dm_target.specs.Going.{RunsPast}
use Rattle.dm_target.proofs.going.go_marked.Given as goal

abbrev pub invariant-loop : goal.invariant-loop
invariant-loop l = record {
  counted : l.left + l.counter ≤ l.most;
  passes : RunsPast l.points l.watches l.span l.initial.history.machine (l.most - l.left) l.history.machine;
  beginning : l.history.beginning ≡ l.initial.history.beginning;
  edits : l.history.edits ≡ l.initial.history.edits;
}
