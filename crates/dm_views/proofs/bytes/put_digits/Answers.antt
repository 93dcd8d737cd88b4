use Rattle.std.proofs.Common.{ℕ, ◌++◌, ◌∷◌, ◌∙◌, ap, arith}
use Rattle.dm_views.specs.Digits.{two_digits}
use Rattle.dm_views.proofs.NumberedTexts.{numbered_none, numbered_more, numbered_all}
use Rattle.dm_views.proofs.bytes.put_digits.Goals as goal

pub loop-k-init : goal.loop-k-init
loop-k-init c = numbered_none _ _

pub loop-k-preserved : goal.loop-k-preserved
loop-k-preserved c = numbered_more _ _ _ _ _ c.loop-k.invariant (c.in_ok-put_byte.ensures
    ∙ ap (λ (b : ℕ). c.loop-k.out.items ++ (32 ∷ two_digits b)) c.peek.ensures)

pub returns : goal.returns
returns c = numbered_all _ _ _ _ _ (omega arith) c.loop-k.invariant
