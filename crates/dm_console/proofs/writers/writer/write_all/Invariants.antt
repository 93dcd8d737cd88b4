use Rattle.std.proofs.Common.{◌≡◌, ◌-◌, ◌≤◌, length, take}
use Rattle.std.specs.Io.KnownBytes.{Appends}
use Rattle.dm_console.proofs.writers.writer.write_all.Given as goal

-- the first `at` bytes were taken, by writes of which none failed
abbrev pub invariant-loop-at : goal.invariant-loop-at
invariant-loop-at g l = record {
  within : l.at ≤ length l.bytes;
  taken : Appends (g.W.Out.taken l.initial.out) (g.W.Out.taken l.out) (take l.at l.bytes);
  no_failure : g.W.Out.failures l.out ≡ g.W.Out.failures l.initial.out;
  untouched : l.at ≡ 0 → l.out ≡ l.initial.out;
}

abbrev pub decreases-loop-at : goal.decreases-loop-at
decreases-loop-at g l = length l.bytes - l.at
