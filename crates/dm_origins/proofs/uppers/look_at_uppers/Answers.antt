use Rattle.std.specs.Prelude.{slice_get}
use Rattle.std.proofs.Common.{◌≡◌, ◌<◌, ℕ, Option, None, length, ◌∙◌, ap, arith}
use Rattle.std.proofs.lemmas.List.{length-set}
use Rattle.dm_xms.specs.declared.tables.Upper.{Upper}
use Rattle.dm_origins.specs.declared.uppers.UpperSince.{UpperSince}
use Rattle.dm_origins.specs.Origins.{upper_since}
use Rattle.dm_origins.proofs.Each.{is_each, done_next, left_next}
use Rattle.dm_origins.proofs.uppers.look_at_uppers.Goals as goal

pub loop-number-preserved : goal.loop-number-preserved
loop-number-preserved c =
    let i = c.loop-number.number in
    let ys = c.loop-number.known in
    let fits : i < length ys = omega arith in
    let is : c.upper_since.result ≡ upper_since c.args.known.now c.args.origin (slice_get c.args.xms.now.uppers i)
    = c.upper_since.ensures ∙ ap (λ (u : Option Upper). upper_since c.args.known.now c.args.origin u)
    c.upper_block.ensures in
    record {
      count = length-set ys i c.upper_since.result ∙ c.loop-number.invariant.count;
      done = done_next (λ (n : ℕ) (x : Option UpperSince). upper_since c.args.known.now c.args.origin
          (slice_get c.args.xms.now.uppers n)) c.args.known.now ys i c.upper_since.result None fits is
          c.loop-number.invariant.done c.loop-number.invariant.left;
      left = left_next c.args.known.now ys i c.upper_since.result None c.loop-number.invariant.left;
    }

pub returns : goal.returns
returns c = is_each _ c.args.known.now c.loop-number.known None c.loop-number.invariant.count
    (λ k less. c.loop-number.invariant.done k (omega arith))
