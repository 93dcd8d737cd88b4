use Rattle.std.proofs.Common.{◌-◌, ◌<◌, Some, sym, subst, ap, ◌∙◌, arith}
use Rattle.dm_pool.specs.inner.FreeList.{Tells}
use Rattle.dm_pool.specs.Gaps.{first_fit}
use Rattle.dm_pool.proofs.Gaps.{fit_is_lowest}
use Rattle.dm_pool.proofs.Fits.{sets_out, meets, none_left, gap_within, gap_falls, goes_on, fit_here, fit_behind}
use Rattle.dm_pool.proofs.free_list.first_fit.Goals as goal

pub loop-at-init : goal.loop-at-init
loop-at-init c =
    let t = c.args.table.now in let told = subst (λ f. Tells t.places t.units 0 f c.args.bytes.now)
    (sym c.first-at.ensures) c.requires.told.tells in (
      sets_out t.places t.units c.args.bytes.now c.first-at.result told,
      fit_is_lowest t.places t.units c.args.wanted told.listed c.requires.some told.gaps,
    )

pub gap_at-gap-requires : goal.gap_at-gap-requires
gap_at-gap-requires c =
    let t = c.args.table.now in let h = gap_within t.places t.units c.args.bytes.now c.loop-at.at c.loop-at.invariant.0
    c.loop-at-test.true in
    (omega (arith, h, c.requires.told.whole), omega (arith, h, c.recall.ensures.laid.small))

pub returns-then-wanted-gap : goal.returns-then-wanted-gap
returns-then-wanted-gap c =
    let t = c.args.table.now in let p = c.loop-at.invariant.0 in let m =
    meets t.places t.units c.args.bytes.now c.loop-at.at p c.loop-at-test.true in
    ap (λ n. Some n) (sym m.low) ∙ sym (fit_here p.rest m.gap m.behind c.args.wanted m.splits (omega (
      arith,
      c.if-wanted-gap.true,
      c.gap_at-gap.ensures.0,
      m.size,
    ))) ∙ c.loop-at.invariant.1

pub loop-at-smaller : goal.loop-at-smaller
loop-at-smaller c =
    let t = c.args.table.now in
    subst (λ n. t.units - n < t.units - c.loop-at.at) (sym c.gap_at-gap.ensures.1)
    (gap_falls t.places t.units c.args.bytes.now c.loop-at.at c.loop-at.invariant.0 c.loop-at-test.true
    c.recall.ensures.laid.small)

pub loop-at-preserved : goal.loop-at-preserved
loop-at-preserved c =
    let t = c.args.table.now in let p = c.loop-at.invariant.0 in let m =
    meets t.places t.units c.args.bytes.now c.loop-at.at p c.loop-at-test.true in (
      goes_on t.places t.units c.args.bytes.now c.loop-at.at c.gap_at-gap.result.next p.rest c.gap_at-gap.ensures.1 m,
      sym (fit_behind p.rest m.gap m.behind c.args.wanted m.splits (omega (
        arith,
        c.if-wanted-gap.false,
        c.gap_at-gap.ensures.0,
        m.size,
      ))) ∙ c.loop-at.invariant.1,
    )

pub returns : goal.returns
returns c =
    let t = c.args.table.now in let p = c.loop-at.invariant.0 in
    sym (sym c.loop-at.invariant.1 ∙ ap (λ l. first_fit l c.args.wanted)
    (none_left t.places t.units c.args.bytes.now c.loop-at.at p c.loop-at-test.false c.recall.ensures.laid.small))
