use Rattle.std.proofs.Common.{◌+◌, ◌∙◌, ap}
use Rattle.std.specs.List.{list_any}
use Rattle.std.proofs.lemmas.List.{take_rest}
use Rattle.dm_ems.specs.Names.{has_name}
use Rattle.dm_ems.proofs.Others.{any_other, found_below, found_above}
use Rattle.dm_ems.proofs.names.any_other_has_name.Goals as goal

pub returns-then-below : goal.returns-then-below
returns-then-below c =
    rw (any_other c.args.name.now c.args.slots.now c.args.handle c.requires)
    (found_below _ _ _ c.any_has_name-below.ensures c.if-below.true)

pub returns-else-below : goal.returns-else-below
returns-else-below c =
    rw (any_other c.args.name.now c.args.slots.now c.args.handle c.requires)
    (found_above _ _ _ _ c.any_has_name-below.ensures c.if-below.false (c.any_has_name-above.ensures
    ∙ ap (list_any (has_name c.args.name.now)) (take_rest c.args.slots.now (c.args.handle + 1))))
