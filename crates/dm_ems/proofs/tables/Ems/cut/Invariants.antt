use Rattle.std.proofs.Common.{◌≡◌, take}
use Rattle.dm_ems.specs.Tables.{expanded, forgotten_all}
use Rattle.dm_ems.specs.Consistent.{IsConsistent}
use Rattle.dm_ems.proofs.tables.Ems.cut.Given as goal

-- the blocks so far have gone
abbrev pub invariant-loop-block : goal.invariant-loop-block
invariant-loop-block l =
    (expanded l.self l.space.memory ≡ forgotten_all (expanded l.initial.self l.initial.space.memory)
    (take l.block-index l.block-items))
    × (l.space ≡ record l.initial.space { memory = l.space.memory })
    × IsConsistent (expanded l.self l.space.memory)
