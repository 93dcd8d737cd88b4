use Rattle.std.proofs.Common.{◌-◌, ◌/◌, ◌<◌, sym, subst, ap, ◌∙◌, arith}
use Rattle.dm_pool.specs.inner.FreeList.{Tells}
use Rattle.dm_pool.specs.Gaps.{count_fitting}
use Rattle.dm_pool.proofs.Fits.{sets_out, tells_gaps, meets, none_left, gap_within, gap_falls, goes_on, free_within, fitting_split, fitting_least}
use Rattle.dm_pool.proofs.free_list.count_fitting.Goals as goal

pub loop-at-init : goal.loop-at-init
loop-at-init c =
    let t = c.args.table.now in let told = subst (λ f. Tells t.places t.units 0 f c.args.bytes.now)
    (sym c.first-at.ensures) c.requires.told.tells in
    let all = ap (count_fitting c.args.units) (tells_gaps t.places t.units c.args.bytes.now c.first-at.result
    c.recall.ensures.based told) in
    let most = free_within t.places t.units 0 told.listed (omega arith) told.gaps in let less =
    fitting_least c.args.units told.listed c.requires.some in (
      sets_out t.places t.units c.args.bytes.now c.first-at.result told,
      omega (arith, all),
      omega (arith, most, less),
    )

pub gap_at-gap-requires : goal.gap_at-gap-requires
gap_at-gap-requires c =
    let t = c.args.table.now in let h = gap_within t.places t.units c.args.bytes.now c.loop-at.at c.loop-at.invariant.0
    c.loop-at-test.true in
    (omega (arith, h, c.requires.told.whole), omega (arith, h, c.recall.ensures.laid.small))

pub loop-at-smaller : goal.loop-at-smaller
loop-at-smaller c =
    let t = c.args.table.now in
    subst (λ n. t.units - n < t.units - c.loop-at.at) (sym c.gap_at-gap.ensures.1)
    (gap_falls t.places t.units c.args.bytes.now c.loop-at.at c.loop-at.invariant.0 c.loop-at-test.true
    c.recall.ensures.laid.small)

pub loop-at-preserved : goal.loop-at-preserved
loop-at-preserved c =
    let t = c.args.table.now in let p = c.loop-at.invariant.0 in let m =
    meets t.places t.units c.args.bytes.now c.loop-at.at p c.loop-at-test.true in
    let split = fitting_split c.args.units p.rest m.gap m.behind m.splits in let share =
    ap (λ n. n / c.args.units) (c.gap_at-gap.ensures.0 ∙ m.size) in (
      goes_on t.places t.units c.args.bytes.now c.loop-at.at c.gap_at-gap.result.next p.rest c.gap_at-gap.ensures.1 m,
      omega (arith, split, share, c.loop-at.invariant.1),
      omega (arith, split, share, c.loop-at.invariant.2),
    )

pub returns : goal.returns
returns c =
    let t = c.args.table.now in let p = c.loop-at.invariant.0 in
    let none = ap (count_fitting c.args.units) (none_left t.places t.units c.args.bytes.now c.loop-at.at p
    c.loop-at-test.false c.recall.ensures.laid.small) in
    omega (arith, none, c.loop-at.invariant.1)
