use Rattle.std.proofs.Common.{sym, ◌∙◌}
use Rattle.std.proofs.lemmas.Option.{none-some}
use Rattle.dm_pool.proofs.table.rank.Goals as goal

-- an order has live blocks alone
pub returns-in_default-clause-above : goal.returns-in_default-clause-above
returns-in_default-clause-above c = let live = c.requires.order.live c.loop-i.i c.loop-i-test.true in
    λ p b le lt at. absurd (none-some live.0 (sym c.in_default.is ∙ live.1))
