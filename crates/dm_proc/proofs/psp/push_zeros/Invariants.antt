use Rattle.std.proofs.Common.{◌≡◌, ◌+◌, ◌++◌, length}
use Rattle.dm_proc.specs.Start.{zeros}
use Rattle.dm_proc.proofs.psp.push_zeros.Given as goal

abbrev pub invariant-loop : goal.invariant-loop
invariant-loop l = record {
  items : l.prefix.items ≡ l.initial.prefix.items ++ zeros l.counter;
  count : length l.prefix.items ≡ length l.initial.prefix.items + l.counter;
}
