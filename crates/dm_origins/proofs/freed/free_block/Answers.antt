use Rattle.std.proofs.Common.{not, arith, inl, inr, ◌+◌, ◌<◌, ◌≡◌, ◌⊎◌}
use Rattle.std.proofs.lemmas.Bool.{cases_lt}
use Rattle.dm_origins.specs.Origins.{is_free_in}
use Rattle.dm_origins.proofs.Freeing.{runs_none, runs_more, block_runs}
use Rattle.dm_origins.proofs.freed.free_block.Goals as goal

pub loop-at-init : goal.loop-at-init
loop-at-init c = record {
  from = omega arith;
  to = omega arith;
  frees = runs_none (λ p. not (is_free_in c.args.old.now p)) c.args.block.now.segment c.args.origin c.args.freed.now;
}

pub loop-at-preserved : goal.loop-at-preserved
loop-at-preserved c = record {
  from = omega arith;
  to = c.free_run-at.ensures.most;
  frees = runs_more (λ p. not (is_free_in c.args.old.now p)) c.args.block.now.segment c.loop-at.at c.free_run-at.result
      c.args.origin c.args.freed.now c.loop-at.freed c.free_run-at.new.freed c.loop-at.invariant.from
      (omega arith) c.loop-at.invariant.frees c.free_run-at.ensures.frees;
}

pub returns : goal.returns
returns c =
    let b = c.args.block.now in
    let end = c.loop-at.at in
    let whole : (b.segment + b.size < end) ⊎ (end ≡ 0x10000) = elim (cases_lt (b.segment + b.size) end) [
      | inl less ↦ inl less
      | inr over ↦ inr (omega arith)
    ] in
    block_runs c.args.old.now b end c.args.origin c.args.freed.now c.loop-at.freed c.requires c.if-block-ne0.false
    (omega arith) (omega arith) whole c.loop-at.invariant.frees
