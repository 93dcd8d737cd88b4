use Rattle.std.proofs.Common.{None, set, sym, ◌∙◌, arith}
use Rattle.std.proofs.lemmas.List.{length-set, get_or-set_other}
use Rattle.dm_pool.proofs.Gaps.{covered, hits, clear}
use Rattle.dm_pool.proofs.table.is_clear_but.Goals as goal

pub returns-then-from-place : goal.returns-then-from-place
returns-then-from-place c =
    let ps = c.args.places.now in let k = c.args.slot in let b = c.in-Some.place in let i = c.loop-i.i in
    sym (covered (set ps k None) i b c.args.from c.args.units (get_or-set_other ps k i None None c.if-i-slot.false
    ∙ c.in-Some.is) (hits b c.args.from c.args.units c.if-place-from.true c.if-from-place.true))

pub returns : goal.returns
returns c =
    let ps = c.args.places.now in let k = c.args.slot in
    sym (clear (set ps k None) c.args.from c.args.units (λ i b lt e. c.loop-i.invariant i b (omega (
      arith,
      lt,
      length-set ps k None,
      c.loop-i-test.false,
    )) e))
