use Rattle.std.proofs.Common.{◌≡◌, ◌+◌, ◌≤◌, length}
use Rattle.dm_ems.specs.Tables.{expanded, appended}
use Rattle.dm_ems_move.proofs.reallocation.append_pages.Given as goal

-- the pages so far have come
abbrev pub invariant-loop : goal.invariant-loop
invariant-loop l =
    (expanded l.ems l.space.memory ≡ appended (expanded l.initial.ems l.initial.space.memory) l.handle l.counter)
    × (l.space ≡ record l.initial.space { memory = l.space.memory })
    × (length l.ems.pages ≤ length l.initial.ems.pages + l.counter)
    × (l.ems.total ≡ l.initial.ems.total)
