use Rattle.std.proofs.Common.{◌≡◌, Ok}
use Rattle.dm_ems_move.specs.Many.{after_pairs}
use Rattle.dm_ems_move.proofs.many.after_pairs.Given as goal

-- the pairs so far are good
abbrev pub invariant-loop-pair : goal.invariant-loop-pair
invariant-loop-pair l = after_pairs l.space.memory l.blocks l.by_segment l.segment l.offset l.pair ≡ Ok l.windows
