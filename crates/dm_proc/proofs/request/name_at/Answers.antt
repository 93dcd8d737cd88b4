use Rattle.std.proofs.Common.{ℕ, [], ◌∷◌, ◌++◌, sym, ◌∙◌, ap, arith, below_more}
use Rattle.dm_space.specs.EightBytes.{byte_after}
use Rattle.dm_proc.specs.Writes.{bytes_from}
use Rattle.dm_proc.proofs.Bytes.{from-more, one-more}
use Rattle.dm_proc.proofs.request.name_at.Goals as goal

pub loop-at-preserved : goal.loop-at-preserved
loop-at-preserved c = record {
  items = one-more [] _ _ _ _ _ c.loop-at.invariant.items (from-more _ _ _ c.loop-at.at) (c.push.ensures.items
      ∙ ap (λ (b : ℕ). c.loop-at.name.items ++ b ∷ []) c.peek-byte.ensures);
  count = omega (arith, c.push.ensures.len, c.loop-at.invariant.count);
  before = below_more _ _ c.loop-at.invariant.before (λ e. c.if-byte-eq0.false (c.peek-byte.ensures ∙ e));
}

pub returns-then-byte-eq0 : goal.returns-then-byte-eq0
returns-then-byte-eq0 c =
    let i = c.loop-at.invariant in
    record {
      short = omega (arith, i.count);
      bytes = i.items ∙ ap (bytes_from c.args.space.now.memory c.args.segment c.args.offset) (sym i.count);
      before = λ k h. i.before k (omega (arith, i.count));
      closed = ap (byte_after c.args.space.now.memory c.args.segment c.args.offset) i.count ∙ sym c.peek-byte.ensures
          ∙ c.if-byte-eq0.true;
    }
