-- The finding about a block that is freed twice.
-- Source: MS-DOS Programmer's Reference, function 49h.
use Rattle.std.specs.Prelude.{ℕ, ◌+◌, ◌==◌, ◌&&◌, ◌||◌, not, Bool, false, if◌then◌else◌, List, [], ◌∷◌, Option, Some}
use Rattle.dm_cpu.specs.declared.cpu.Cpu.{Cpu}
use Rattle.dm_blocks.specs.declared.header.Header.{Header}
use Rattle.dm_services.specs.Functions.{function_of}
use Rattle.dm_origins.specs.outcomes.Calls.{frees}
use Rattle.dm_findings.specs.declared.calls.Call.{Call}
use Rattle.dm_findings.specs.declared.calls.Call.TheVariants.{Dos}
use Rattle.dm_findings.specs.declared.finding.Finding.{Finding}
use Rattle.dm_findings.specs.declared.finding.Finding.TheVariants.{FreedTwice}

-- whether one of the headers is that of the block at the segment, and the block is free (owner 0)
abbrev pub is_free_at : List Header → ℕ → Bool
is_free_at [] segment = false
is_free_at (b ∷ headers) segment = ((b.segment + 1 == segment) && (b.owner == 0)) || is_free_at headers segment

-- the finding that a call of 49h succeeded for the block at segment ES, which was free before; none for any other call.
-- c and d are the registers before and after the call, `headers` the arena before it
abbrev pub freed_twice : Cpu → Cpu → Option Call → List Header → List Finding
freed_twice c d (Some (Dos number)) headers =
    if frees (function_of number) && not d.flags.carry && is_free_at headers c.es then FreedTwice c.es ∷ [] else []
freed_twice c d _ headers = []
