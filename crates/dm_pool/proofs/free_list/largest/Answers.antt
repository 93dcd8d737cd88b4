use Rattle.std.proofs.Common.{◌-◌, ◌<◌, sym, subst, ap, arith}
use Rattle.dm_pool.specs.inner.FreeList.{Tells}
use Rattle.dm_pool.specs.Gaps.{largest}
use Rattle.dm_pool.proofs.Fits.{sets_out, tells_gaps, meets, none_left, gap_within, gap_falls, goes_on}
use Rattle.dm_pool.proofs.free_list.largest.Goals as goal

pub loop-at-init : goal.loop-at-init
loop-at-init c =
    let t = c.args.table.now in let told = subst (λ f. Tells t.places t.units 0 f c.args.bytes.now)
    (sym c.first-at.ensures) c.requires.tells in
    let all = ap (largest) (tells_gaps t.places t.units c.args.bytes.now c.first-at.result c.recall.ensures.based
    told) in
    (sets_out t.places t.units c.args.bytes.now c.first-at.result told, omega (arith, all))

pub gap_at-gap-requires : goal.gap_at-gap-requires
gap_at-gap-requires c =
    let t = c.args.table.now in let h = gap_within t.places t.units c.args.bytes.now c.loop-at.at c.loop-at.invariant.0
    c.loop-at-test.true in
    (omega (arith, h, c.requires.whole), omega (arith, h, c.recall.ensures.laid.small))

pub loop-at-smaller : goal.loop-at-smaller
loop-at-smaller c =
    let t = c.args.table.now in
    subst (λ n. t.units - n < t.units - c.loop-at.at) (sym c.gap_at-gap.ensures.1)
    (gap_falls t.places t.units c.args.bytes.now c.loop-at.at c.loop-at.invariant.0 c.loop-at-test.true
    c.recall.ensures.laid.small)

pub loop-at-preserved : goal.loop-at-preserved
loop-at-preserved c =
    let t = c.args.table.now in let p = c.loop-at.invariant.0 in let m =
    meets t.places t.units c.args.bytes.now c.loop-at.at p c.loop-at-test.true in
    let split = ap largest m.splits in (
      goes_on t.places t.units c.args.bytes.now c.loop-at.at c.gap_at-gap.result.next p.rest c.gap_at-gap.ensures.1 m,
      omega (arith, split, m.size, c.gap_at-gap.ensures.0, c.max-most.ensures, c.loop-at.invariant.1),
    )

pub returns : goal.returns
returns c =
    let t = c.args.table.now in let p = c.loop-at.invariant.0 in
    let none = ap (largest) (none_left t.places t.units c.args.bytes.now c.loop-at.at p c.loop-at-test.false
    c.recall.ensures.laid.small) in
    omega (arith, none, c.loop-at.invariant.1)
