use Rattle.dm_space.proofs.Keeping.{held_lent}
use Rattle.dm_space.proofs.space.Space.bytes_mut.Goals as goal

pub invariant_of-self-lent : goal.invariant_of-self-lent
invariant_of-self-lent c = let s = c.self.inside in
    λ w. (held_lent s.store s.windows s.a20 c.args.block w c.self.invariant.0, c.self.invariant.1)
