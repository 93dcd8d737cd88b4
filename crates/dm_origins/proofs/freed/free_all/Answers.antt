use Rattle.std.proofs.Common.{◌≡◌, ℕ, length, subst, arith}
use Rattle.dm_origins.proofs.Freeing.{Freed, freed_none, freed_more, freed_all}
use Rattle.dm_origins.proofs.freed.free_all.Goals as goal

pub loop-block-init : goal.loop-block-init
loop-block-init c = record {
  near = omega arith;
  freed = freed_none c.args.old.now c.args.new.now c.args.origin c.args.freed.now;
}

pub loop-block-preserved : goal.loop-block-preserved
loop-block-preserved c = record {
  near = c.number_near-near.ensures;
  freed = freed_more c.args.old.now c.args.new.now c.loop-block.block-index _ c.args.origin c.args.freed.now
      c.loop-block.freed c.free_near.new.freed c.loop-block-test.true c.loop-block.invariant.freed c.free_near.ensures;
}

pub returns : goal.returns
returns c =
    let all : c.loop-block.block-index ≡ length c.args.new.now = omega arith in
    let F : ℕ → Type 0 = λ k. Freed c.args.old.now c.args.new.now k c.args.origin c.args.freed.now c.loop-block.freed in
    freed_all c.args.old.now c.args.new.now c.args.origin c.args.freed.now c.loop-block.freed
    (subst F all c.loop-block.invariant.freed)
