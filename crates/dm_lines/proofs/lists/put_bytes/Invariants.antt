use Rattle.std.proofs.Common.{◌≡◌, ◌≤◌, ◌+◌, length}
use Rattle.arrayvec.specs.ArrayVec.{array_vec_len}
use Rattle.dm_lines.specs.Operands.{parts}
use Rattle.dm_lines.specs.Tokens.{joined_to}
use Rattle.dm_lines.specs.Statements.{byte_items}
use Rattle.dm_lines.proofs.lists.put_bytes.Given as goal

abbrev pub invariant-loop-tail : goal.invariant-loop-tail
invariant-loop-tail l = record {
  room : array_vec_len l.found + length l.rest ≤ 255;
  same : joined_to l.found.items (byte_items (parts l.rest)) ≡ byte_items (parts l.tokens);
}

abbrev pub decreases-loop-tail : goal.decreases-loop-tail
decreases-loop-tail l = length l.rest
