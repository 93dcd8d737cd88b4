use Rattle.dm_arena.proofs.Allocating.{replaceable, becomes}
use Rattle.dm_arena.proofs.allocation.write_joined.Goals as goal

pub returns-clause-memory : goal.returns-clause-memory
returns-clause-memory c = λ p.
    (let j = c.join_from.ensures.memory p.list p.arena in
    becomes _ _ _ _ c.args.cut p j _ (c.write_cut.ensures.memory _ _ _ _ _ _
    (replaceable _ _ _ _ c.args.cut p j _ c.is_last-last.ensures)))
