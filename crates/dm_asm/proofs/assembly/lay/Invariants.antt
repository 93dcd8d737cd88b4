use Rattle.std.proofs.Common.{◌≤◌, ◌+◌, ◌*◌, length}
use Rattle.dm_asm.proofs.Passes.{Laying}
use Rattle.dm_asm.proofs.assembly.lay.Given as goal

abbrev pub invariant-loop-line : goal.invariant-loop-line
invariant-loop-line l = record {
  few : l.number + length l.rest ≤ length l.text;
  small : l.at + 256 * length l.rest ≤ 256 + 256 * length l.text;
  laying : Laying l.text l.rest l.number l.at l.labels l.known;
}

abbrev pub decreases-loop-line : goal.decreases-loop-line
decreases-loop-line l = length l.rest
