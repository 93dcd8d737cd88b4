use Rattle.std.proofs.Common.{sym, subst}
use Rattle.dm_services.specs.state.State.{State, AreConsistent}
use Rattle.dm_machine.proofs.machine.Machine.duplicate.Goals as goal

pub invariant_of-result : goal.invariant_of-result
invariant_of-result c = subst (λ (s : State). AreConsistent s) (sym c.in_ok-parts.ensures) c.self.invariant
