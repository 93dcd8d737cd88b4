use Rattle.std.proofs.Common.{◌≡◌, ◌++◌, take}
use Rattle.std.specs.Prelude.{flat_map, codes}
use Rattle.dm_views.specs.Registers.{field_text}
use Rattle.dm_views.proofs.registers.put_fields.Given as goal

-- a space and a register for each so far
abbrev pub invariant-loop-field : goal.invariant-loop-field
invariant-loop-field l = l.out.items ≡ l.initial.out.items ++ flat_map (λ f. codes " "
    ++ field_text f) (take l.field-index l.rest)
