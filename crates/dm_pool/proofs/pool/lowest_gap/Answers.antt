use Rattle.std.proofs.Common.{sym, ap, ◌∙◌}
use Rattle.dm_pool.specs.Gaps.{lowest}
use Rattle.dm_pool.proofs.Takes.{lowest_free, gap_free}
use Rattle.dm_pool.proofs.Told.{lowest_zero}
use Rattle.dm_pool.proofs.pool.lowest_gap.Goals as goal

pub returns-then-units-eq0 : goal.returns-then-units-eq0
returns-then-units-eq0 c =
    let t = c.args.table.now in let none = ap (lowest t.places t.units) c.if-units-eq0.true
    ∙ lowest_zero t.places t.units in
    record { lowest = sym none; free = lowest_free t.places t.units c.args.units 0 none }

pub returns : goal.returns
returns c =
    let t = c.args.table.now in
    record {
      lowest = c.first_fit.ensures;
      free = gap_free t.places t.units c.args.units c.first_fit.result (sym c.first_fit.ensures);
    }
