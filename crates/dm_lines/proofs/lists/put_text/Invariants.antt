use Rattle.std.proofs.Common.{◌≡◌, ◌≤◌, ◌+◌, length}
use Rattle.arrayvec.specs.ArrayVec.{array_vec_len}
use Rattle.dm_lines.specs.Tokens.{joined_to}
use Rattle.dm_lines.specs.Statements.{letters}
use Rattle.dm_lines.proofs.lists.put_text.Given as goal

abbrev pub invariant-loop-rest : goal.invariant-loop-rest
invariant-loop-rest l = record {
  room : array_vec_len l.bytes + length l.rest ≤ array_vec_len l.fn.bytes + length l.tokens;
  same : joined_to l.bytes.items (letters l.rest) ≡ joined_to l.fn.bytes.items (letters l.tokens);
}

abbrev pub decreases-loop-rest : goal.decreases-loop-rest
decreases-loop-rest l = length l.rest
