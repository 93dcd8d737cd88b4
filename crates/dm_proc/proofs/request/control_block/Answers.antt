use Rattle.std.proofs.Common.{◌≡◌, ℕ, [], ◌∷◌, ◌++◌, take, sym, ◌∙◌, ap, arith}
use Rattle.std.proofs.lemmas.List.{length-set, take_all, take_more_set}
use Rattle.dm_proc.specs.Writes.{bytes_from}
use Rattle.dm_proc.specs.Request.{control_block}
use Rattle.dm_proc.proofs.Bytes.{from-more, one-more}
use Rattle.dm_proc.proofs.request.control_block.Goals as goal

pub loop-at-preserved : goal.loop-at-preserved
loop-at-preserved c =
    let i = c.loop-at.invariant in
    let xs = c.loop-at.block in
    let at = c.loop-at.at in
    record {
      length = length-set xs at c.peek.result ∙ i.length;
      items = one-more [] _ _ _ _ _ i.items (from-more _ _ _ at) (take_more_set xs at c.peek.result (omega (
        arith,
        i.length,
      )) ∙ ap (λ (b : ℕ). take at xs ++ b ∷ []) c.peek.ensures);
    }

pub returns : goal.returns
unfolding control_block
returns c =
    let e : c.loop-at.at ≡ 16 = omega arith in
    sym (take_all c.loop-at.at c.loop-at.block (omega (arith, c.loop-at.invariant.length))) ∙ c.loop-at.invariant.items
    ∙ ap (bytes_from c.args.space.now.memory c.args.pointer.segment c.args.pointer.offset) e
