use Rattle.std.proofs.Common.{◌≤◌, ◌+◌, length}
use Rattle.dm_asm.proofs.Passes.{Emitting}
use Rattle.dm_asm.proofs.assembly.emit.Given as goal

abbrev pub invariant-loop-line : goal.invariant-loop-line
invariant-loop-line l = record {
  few : l.number + length l.rest ≤ length l.text;
  emitting : Emitting l.text l.rest l.number l.labels l.known l.lines l.codes l.bytes.items;
}

abbrev pub decreases-loop-line : goal.decreases-loop-line
decreases-loop-line l = length l.rest
