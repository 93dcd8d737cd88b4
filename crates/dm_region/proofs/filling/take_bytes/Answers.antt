use Rattle.std.proofs.Common.{ℕ, ◌+◌, List, set, get_or, Option, None, sym, ap, ◌∙◌, arith}
use Rattle.dm_region.proofs.Runs.{next_filled, next_emptied}
use Rattle.dm_region.proofs.filling.take_bytes.Goals as goal

pub read-byte-requires : goal.read-byte-requires
read-byte-requires c =
    let cs = c.args.cells.now.slots in let i = c.loop-i.i in let p = c.args.first in let lt = c.loop-i-test.true in
    let inv = c.loop-i.invariant in
    let there = next_filled cs p i c.args.count lt c.requires.within (c.requires.filled (p + i) (omega arith)
    (omega (arith, lt))) in
    (c.requires.base ∙ sym inv.at, (there.0, ap (λ (l : List (Option ℕ)). get_or l (p + i) None) inv.slots ∙ there.1))

pub loop-i-preserved : goal.loop-i-preserved
loop-i-preserved c =
    let cs = c.args.cells.now.slots in let i = c.loop-i.i in let p = c.args.first in let lt = c.loop-i-test.true in
    let inv = c.loop-i.invariant in
    record {
      at = c.read-byte.ensures.slots.0 ∙ inv.at;
      slots = c.read-byte.ensures.slots.1 ∙ ap (λ (l : List (Option ℕ)). set l (p + i) None) inv.slots
          ∙ next_emptied cs p i c.args.count lt c.requires.within;
    }
