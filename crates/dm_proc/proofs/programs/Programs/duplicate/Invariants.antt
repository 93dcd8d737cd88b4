use Rattle.std.proofs.Common.{◌≡◌, ℕ, List, take, map}
use Rattle.dm_proc.proofs.programs.Programs.duplicate.Given as goal
use Rattle.dm_proc.specs.declared.programs.Program.{Program}

-- a program as contracts see it
abbrev pub seen : Program → List ℕ × List ℕ
seen p = (p.name.items, p.bytes.items)

-- the new store has the programs before the index
abbrev pub invariant-loop-program : goal.invariant-loop-program
invariant-loop-program l = map seen l.programs.items ≡ map seen (take l.program-index l.program-items)
