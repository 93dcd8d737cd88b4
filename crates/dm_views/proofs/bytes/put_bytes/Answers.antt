use Rattle.std.proofs.Common.{ℕ, ◌≡◌, ◌+◌, ◌*◌, ◌%◌, ◌-◌, ◌++◌, ◌∙◌, min, ap, rules}
use Rattle.dm_views.specs.Bytes.{line_text}
use Rattle.dm_views.proofs.NumberedTexts.{numbered_none, numbered_more, wrapped}
use Rattle.dm_views.proofs.bytes.put_bytes.Goals as goal

pub loop-line-init : goal.loop-line-init
loop-line-init c = numbered_none _ _

pub loop-line-preserved : goal.loop-line-preserved
loop-line-preserved c =
    let at = wrapped c.args.offset (16 * c.loop-line.line) in
    let left : c.min-left.result ≡ min 16 (c.args.count - 16 * c.loop-line.line) = search rules in
    numbered_more _ _ _ _ _ c.loop-line.invariant (
    c.in_ok-put_bytes_line.ensures
    ∙ ap (λ (o : ℕ). c.loop-line.out.items ++ line_text c.args.space.now.memory c.args.segment o c.min-left.result) at
    ∙ ap (λ (n : ℕ). c.loop-line.out.items ++ line_text c.args.space.now.memory c.args.segment
    ((c.args.offset + 16 * c.loop-line.line) % 65536) n) left
    )
