use Rattle.std.proofs.Common.{ℕ, ◌+◌, List, length, set, get_or, Option, Some, None, sym, ap, ◌∙◌, arith}
use Rattle.dm_region.proofs.Runs.{zeros_next, zeros_put}
use Rattle.dm_region.proofs.filling.put_zeros.Goals as goal

pub write-requires : goal.write-requires
write-requires c =
    let cs = c.args.cells.now.slots in let i = c.loop-i.i in let p = c.args.first in let lt = c.loop-i-test.true in
    let inv = c.loop-i.invariant in
    let next = zeros_next cs p i c.args.count lt c.requires.empty.0 in (
      c.requires.base ∙ sym inv.at,
      omega (arith, next.0, ap length inv.slots),
      ap (λ (l : List (Option ℕ)). get_or l (p + i) None) inv.slots ∙ next.1
          ∙ c.requires.empty.1 (p + i) (omega arith) (omega (arith, lt)),
    )

pub loop-i-preserved : goal.loop-i-preserved
loop-i-preserved c =
    let cs = c.args.cells.now.slots in let i = c.loop-i.i in let p = c.args.first in let lt = c.loop-i-test.true in
    let inv = c.loop-i.invariant in
    record {
      at = c.write.ensures.0 ∙ inv.at;
      slots = c.write.ensures.1 ∙ ap (λ (l : List (Option ℕ)). set l (p + i)
          (Some 0)) inv.slots ∙ zeros_put cs p i c.args.count lt c.requires.empty.0;
    }
