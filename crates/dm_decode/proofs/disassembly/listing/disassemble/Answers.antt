use Rattle.std.proofs.Common.{arith, ap, ◌∙◌, ◌++◌, ◌∷◌, [], ℕ, List}
use Rattle.dm_decode.specs.disassembly.Listing.{none}
use Rattle.dm_decode.proofs.disassembly.Lines.{shows_part, lists_more}
use Rattle.dm_decode.proofs.disassembly.listing.disassemble.Goals as goal

pub loop-at-init : goal.loop-at-init
loop-at-init c = (omega arith, rw c.new-out.ensures.items none)

pub loop-at-smaller : goal.loop-at-smaller
loop-at-smaller c =
    let part = shows_part _ _ _ _ c.in_ok-len.ensures.2 in
    omega (arith, part.some, part.within)

pub loop-at-preserved : goal.loop-at-preserved
loop-at-preserved c =
    let shown = c.in_ok-len.ensures in
    let part = shows_part _ _ _ _ shown.2 in (
      part.within,
      lists_more _ _ _ _ _ _ c.loop-at.invariant.1 shown.2 (c.in_ok-push.ensures.items
          ∙ ap (λ (xs : List ℕ). xs ++ 10 ∷ []) shown.1),
    )
