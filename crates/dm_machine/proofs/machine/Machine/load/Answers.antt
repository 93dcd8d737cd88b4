use Rattle.std.proofs.Common.{◌∙◌, ap, refl, sym}
use Rattle.dm_machine.specs.contracts.machine.Machine.{the_view}
use Rattle.dm_machine.proofs.Consistency.{consistent-loads}
use Rattle.dm_machine.proofs.NoRoom.{no_room, had_room}
use Rattle.dm_machine.proofs.machine.Machine.load.Goals as goal

pub returns-in-Err-clause-short : goal.returns-in-Err-clause-short
returns-in-Err-clause-short c = (
  λ is.
      no_room _ _ _ _ _ _ _ (ap the_view c.self-inside.view_is ∙ c.self.view_is) (sym c.in-Some.ensures)
      c.in-Ok.ensures.0 c.in-Ok.ensures.1 c.as_slice.ensures.value c.in-Err.ensures.loads.1,
  λ none. refl,
)

pub returns-in-Ok-loaded-clause-short : goal.returns-in-Ok-loaded-clause-short
returns-in-Ok-loaded-clause-short c = (
  λ is. cc,
  λ none.
      absurd
      (had_room _ _ _ _ _ _ _ _ _ _ (ap the_view c.self-inside.view_is
      ∙ c.self.view_is) (sym c.in-Some.ensures) c.in-Ok.ensures.0 c.as_slice.ensures.value
      c.in-Ok-loaded.ensures.loads none),
)

pub invariant_of-self : goal.invariant_of-self
invariant_of-self c = consistent-loads _ _ _ _ _ _ _ _ _ _ (ap the_view c.self-inside.view_is) c.self.invariant
    c.load-loaded.ensures.loads
