use Rattle.std.proofs.Common.{arith, rules}
use Rattle.dm_requests.proofs.commands.Typed.{digit_more, digits_fit, digit_read}
use Rattle.dm_requests.proofs.commands.numbers.read_number.Goals as goal

pub overflow_mul-n : goal.overflow_mul-n
overflow_mul-n c =
    let more = digit_more c.loop-byte.n 0 c.loop-byte.byte-index c.loop-byte.invariant.small (omega arith) in
    let fits = digits_fit _ _ more (omega arith) in
    omega (arith, fits)

pub overflow_add-n : goal.overflow_add-n
overflow_add-n c =
    let more = digit_more c.loop-byte.n c.in_ok-n.field-0 c.loop-byte.byte-index c.loop-byte.invariant.small
    c.in_ok-n.ensures.small in
    let fits = digits_fit _ _ more (omega arith) in
    omega (arith, fits)

pub loop-byte-preserved : goal.loop-byte-preserved
loop-byte-preserved c = record {
  small = digit_more c.loop-byte.n c.in_ok-n.field-0 c.loop-byte.byte-index c.loop-byte.invariant.small
      c.in_ok-n.ensures.small;
  same = digit_read c.args.word.now c.loop-byte.byte-index c.loop-byte.n c.in_ok-n.field-0 _ (omega arith)
      (search rules) c.loop-byte.invariant.same;
}
