use Rattle.std.proofs.Common.{None, set, sym, ap, ◌∙◌, refl, arith}
use Rattle.dm_pool.specs.Gaps.{is_clear}
use Rattle.dm_pool.proofs.Blocks.{if_some, clear_nothing, clear_without}
use Rattle.dm_pool.proofs.Takes.{gap_free}
use Rattle.dm_pool.proofs.pool.new_base.Goals as goal

pub returns-then-units-eq0-clause-free : goal.returns-then-units-eq0-clause-free
returns-then-units-eq0-clause-free c =
    let none = set c.args.table.now.places c.args.slot None in
    (omega (arith, c.if-units-eq0.true), ap (is_clear none 0) c.if-units-eq0.true ∙ clear_nothing none, λ z. refl)

pub returns-clause-free : goal.returns-clause-free
returns-clause-free c =
    let t = c.args.table.now in
    if_some c.first_fit.result _ _ (gap_free t.places t.units c.args.units c.first_fit.result (sym c.first_fit.ensures))
    (λ p f. (f.0, clear_without t.places c.args.slot p c.args.units f.1, f.2))
