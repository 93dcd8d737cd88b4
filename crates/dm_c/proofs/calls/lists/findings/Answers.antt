use Rattle.std.proofs.Common.{refl, inl, inr, ap, ◌∙◌}
use Rattle.dm_c.specs.calls.Statuses.{status_of}
use Rattle.dm_c.proofs.calls.lists.findings.Goals as goal

pub returns-in-Ok : goal.returns-in-Ok
returns-in-Ok c = (inl (rw (c.as_slice.ensures.value, c.in-Ok.ensures.ok) at c.give_items.ensures), refl)

pub returns-in-Err : goal.returns-in-Err
returns-in-Err c = (inr (c.status_of.ensures ∙ ap status_of c.in-Err.ensures.err, refl, refl), refl)
