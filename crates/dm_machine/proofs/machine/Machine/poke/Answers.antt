use Rattle.std.proofs.Common.{ap}
use Rattle.dm_machine.specs.contracts.machine.Machine.{the_view}
use Rattle.dm_space.specs.Memory.{Held}
use Rattle.dm_machine.proofs.Consistency.{consistent-poked}
use Rattle.dm_machine.proofs.machine.Machine.poke.Goals as goal

pub invariant_of-self : goal.invariant_of-self
invariant_of-self c = consistent-poked _ _ _ _ _ (ap the_view c.self-inside.view_is) c.self.invariant
    (ap (λ (h : Held). h.memory) c.poke.ensures)
