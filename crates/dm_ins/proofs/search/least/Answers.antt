use Rattle.std.proofs.Common.{arith, length, subst, List}
use Rattle.dm_ins.specs.declared.keys.Key.{Key}
use Rattle.dm_ins.specs.inner.Search.{Best, seen_bytes}
use Rattle.dm_ins.proofs.Order.{best_at, best_more, best_none}
use Rattle.dm_ins.proofs.NoneLeftOut.{all_fit}
use Rattle.dm_ins.proofs.search.least.Goals as goal

pub loop-key-init : goal.loop-key-init
loop-key-init c = best_none c.keys_of-keys.result.now c.args.action.now

pub candidate-requires : goal.candidate-requires
candidate-requires c = all_fit c.keys_of-keys.result.now c.loop-key.key-index c.keys_of-keys.ensures.fits

pub loop-key-preserved : goal.loop-key-preserved
loop-key-preserved c = rw c.better-best.ensures (best_more c.keys_of-keys.result.now c.args.action.now
    c.loop-key.key-index _ _ c.loop-key.invariant c.candidate.ensures.found c.candidate.ensures.none)

pub returns : goal.returns
returns c =
    let best = best_at c.loop-key.key-index (length c.keys_of-keys.result.now) c.keys_of-keys.result.now
    c.args.action.now (seen_bytes c.loop-key.best) (omega arith) c.loop-key.invariant in
    subst (λ (ks : List Key). Best (length ks) ks c.args.action.now (seen_bytes c.loop-key.best))
    c.keys_of-keys.ensures.keys best
