use Rattle.std.proofs.Common.{◌≡◌, ◌+◌, ◌≤◌, length}
use Rattle.dm_ems.specs.Tables.{expanded, appended}
use Rattle.dm_ems.proofs.tables.Ems.allocate.Given as goal

-- the pages so far have come
abbrev pub invariant-loop : goal.invariant-loop
invariant-loop l =
    (expanded l.self l.space.memory ≡ appended (expanded l.initial.self l.initial.space.memory) l.handle l.counter)
    × (l.space ≡ record l.initial.space { memory = l.space.memory })
    × (length l.self.pages ≤ length l.initial.self.pages + l.counter)
    × (l.self.total ≡ l.initial.self.total)
