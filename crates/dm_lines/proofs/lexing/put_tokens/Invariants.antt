use Rattle.std.proofs.Common.{◌≡◌, ◌≤◌, ◌+◌, drop, false, []}
use Rattle.arrayvec.specs.ArrayVec.{array_vec_len}
use Rattle.dm_lines.specs.Tokens.{lexed, joined_to}
use Rattle.dm_lines.proofs.lexing.put_tokens.Given as goal

abbrev pub invariant-loop-byte : goal.invariant-loop-byte
invariant-loop-byte l = record {
  room : array_vec_len l.tokens + array_vec_len l.word ≤ l.byte-index;
  same : joined_to l.tokens.items (lexed l.quoted l.word.items (drop l.byte-index l.line)) ≡ lexed false [] l.line;
}
