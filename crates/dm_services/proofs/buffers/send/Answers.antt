use Rattle.std.proofs.Common.{◌≡◌, arith, subst}
use Rattle.dm_services.proofs.Stores.{IsSent, sent-none, sent-more, sent-all}
use Rattle.dm_services.proofs.buffers.send.Goals as goal

pub loop-index-init : goal.loop-index-init
loop-index-init c = sent-none _ _ _ _

pub put-requires : goal.put-requires
put-requires c = let room = c.loop-index.invariant.room in omega arith

pub loop-index-preserved : goal.loop-index-preserved
loop-index-preserved c =
    let room = c.loop-index.invariant.room in
    sent-more _ _ _ _ _ _ _ _ c.loop-index.invariant (omega arith) c.peek.ensures c.put.ensures

pub returns : goal.returns
returns c =
    let last : c.loop-index.index ≡ c.args.count = omega arith in
    sent-all _ _ _ _ _ _ (subst (λ k. IsSent c.args.console.now c.args.space.now.memory c.args.segment c.args.offset k
    c.loop-index.console) last c.loop-index.invariant)
