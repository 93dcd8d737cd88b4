use Rattle.std.proofs.Common.{arith}
use Rattle.dm_decode.proofs.Exact.{exact_none, exact_some, read_spelled, rest_within}
use Rattle.dm_decode.proofs.decoding.decode.Goals as goal

pub overflow_sub-length : goal.overflow_sub-length
overflow_sub-length c = omega (
  arith,
  c.told-bytes,
  rest_within c.args.bytes.now c.in-Some.prefixes c.in-Some.action c.in-Some.rest.now c.fits-bytes c.in-Some.ensures,
)

pub invariant_of-ins : goal.invariant_of-ins
invariant_of-ins c =
    record {
      has_spelling = read_spelled c.args.bytes.now c.in-Some.prefixes c.in-Some.action c.in-Some.rest.now
          c.fits-bytes c.in-Some.ensures;
    }

pub returns-in-None : goal.returns-in-None
returns-in-None c = exact_none c.args.bytes.now c.in-None.ensures

pub returns-in-Some : goal.returns-in-Some
returns-in-Some c = exact_some c.args.bytes.now _ c.in-Some.rest.now c.fits-bytes c.told-bytes c.in-Some.ensures
