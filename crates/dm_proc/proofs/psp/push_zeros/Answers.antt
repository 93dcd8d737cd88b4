use Rattle.std.proofs.Common.{◌++◌, sym, ◌∙◌, ap, arith}
use Rattle.std.proofs.lemmas.List.{append-nil}
use Rattle.dm_proc.proofs.Bytes.{zeros-none, zeros-more, one-more}
use Rattle.dm_proc.proofs.psp.push_zeros.Goals as goal

pub loop-init : goal.loop-init
loop-init c = record {
  items = sym (ap (λ ys. c.args.prefix.now.items ++ ys) zeros-none
      ∙ append-nil c.args.prefix.now.items);
  count = omega arith;
}

pub loop-preserved : goal.loop-preserved
loop-preserved c = record {
  items = one-more _ _ _ _ _ _ c.loop.invariant.items (zeros-more c.loop.counter) (c.push.ensures.items);
  count = omega (arith, c.push.ensures.len, c.loop.invariant.count);
}
