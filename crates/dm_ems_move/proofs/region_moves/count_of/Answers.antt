use Rattle.std.proofs.Common.{ℕ, List, length, ap, ◌∙◌}
use Rattle.dm_ems_move.proofs.Regions.{count-blocks}
use Rattle.dm_ems_move.proofs.region_moves.count_of.Goals as goal

pub returns-clause-count : goal.returns-clause-count
returns-clause-count c = ap (λ (xs : List ℕ). length xs) c.requires.blocks ∙ count-blocks c.args.ems.now c.args.handle
