use Rattle.std.proofs.Common.{rules, arith}
use Rattle.dm_lines.proofs.Lexed.{quoted_byte, sign_byte_read}
use Rattle.dm_lines.proofs.lexing.put_tokens.Goals as goal

pub loop-byte-preserved-then-quoted : goal.loop-byte-preserved-then-quoted
loop-byte-preserved-then-quoted c = record {
  room = omega arith;
  same = search (
    rules,
    quoted_byte c.loop-byte.tokens.items c.loop-byte.word.items c.args.line.now c.loop-byte.byte-index
        c.loop-byte.quoted _ (omega arith) c.if-quoted.true c.loop-byte.invariant.same,
  );
}

pub loop-byte-preserved : goal.loop-byte-preserved
loop-byte-preserved c = record {
  room = search rules;
  same = sign_byte_read c.loop-byte.tokens.items c.close.new.tokens.items c.push_sign.new.tokens.items
      c.loop-byte.word.items c.close.new.word.items c.args.line.now c.loop-byte.byte-index c.loop-byte.quoted _
      (omega arith) c.if-quoted.false (search rules) (search (rules, c.if-byte-eq59.false)) (search rules)
      (search rules) (search rules) c.loop-byte.invariant.same;
}
