use Rattle.dm_space.proofs.Keeping.{held_taken}
use Rattle.dm_space.proofs.Shifts.{shifts_taken}
use Rattle.dm_space.proofs.space.Space.take.Goals as goal

pub invariant_of-self : goal.invariant_of-self
invariant_of-self c =
    let s = c.self.inside in (
      held_taken s.store s.windows s.a20 c.take.new.self c.take.result c.args.units c.take.ensures c.self.invariant.0,
      shifts_taken s.a20 s.store s.windows s.shifts c.take.new.self c.take.result c.args.units c.take.ensures
          c.self.invariant.1,
    )
