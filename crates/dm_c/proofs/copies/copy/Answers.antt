use Rattle.std.proofs.Common.{refl, sym, ap, ◌∙◌}
use Rattle.dm_c.specs.Handles.{occupied, no_memory}
use Rattle.dm_c.specs.calls.Statuses.{status_of}
use Rattle.dm_c.proofs.Insides.{of_some}
use Rattle.dm_c.proofs.Taken.{none_held}
use Rattle.dm_c.proofs.copies.copy.Goals as goal

pub returns-then-is_held : goal.returns-then-is_held
returns-then-is_held c = let there = of_some c.args.copy.now.inside.value (sym c.is_held.ensures ∙ c.if-is_held.true) in
    occupied there.0 there.1 there.1 refl

pub returns-in-Err : goal.returns-in-Err
returns-in-Err c = let none = none_held c.args.copy.now.inside.value c.is_held.result c.is_held.ensures
    c.if-is_held.false in
    no_memory none none (c.status_of.ensures ∙ ap status_of c.in-Err.ensures.err)
