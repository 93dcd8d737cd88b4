use Rattle.std.proofs.Common.{◌≡◌, drop, map}
use Rattle.dm_proc.specs.Programs.{program_of}
use Rattle.dm_proc.proofs.programs.Programs.find.Given as goal

-- no program before the index has the name
abbrev pub invariant-loop-program : goal.invariant-loop-program
invariant-loop-program l =
    program_of (map (λ p. (p.name.items, p.bytes.items)) (drop l.program-index l.program-items)) l.name
    ≡ program_of (map (λ p. (p.name.items, p.bytes.items)) l.program-items) l.name
