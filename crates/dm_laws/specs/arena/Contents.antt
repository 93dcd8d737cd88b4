-- What successful calls of the arena leave in memory: they write headers, and change no byte of a block.
-- MS-DOS Programmer's Reference, functions 48h, 49h and 4Ah.
use Rattle.std.specs.Prelude.{Bool, List, Ok, ℕ, ◌*◌, ◌+◌, ◌<◌, ◌≡◌, ◌≤◌, ◌⊎◌}
use Rattle.dm_space.specs.Memory.{Memory, peek}
use Rattle.dm_blocks.specs.declared.header.Header.{Header}
use Rattle.dm_blocks.specs.Chain.{IsArena, first_header, next}
use Rattle.dm_arena.specs.declared.fit.Strategy.{Strategy}
use Rattle.dm_arena.specs.Allocation.{Allocates}
use Rattle.dm_arena.specs.Blocks.{IsIn}
use Rattle.dm_arena.specs.Owned.{Frees, Resizes}
use Rattle.dm_laws.specs.arena.Paragraphs.{paragraphs_taken}

-- a successful 48h, 49h or 4Ah leads from memory S to memory T
abbrev pub Succeeds : Bool → Memory → Memory → Type 0
Succeeds upper S T =
    ((strategy : Strategy) × (n : ℕ) × (owner : ℕ) × (segment : ℕ) × Allocates upper S strategy n owner (Ok segment) T)
    ⊎ (((segment : ℕ) × Frees upper S segment (Ok tt) T) ⊎ ((segment : ℕ) × (n : ℕ) ×
    Resizes upper S segment n (Ok tt) T))

-- the bytes of the list's blocks, without the headers, are the same in T as in S, by their linear addresses
abbrev pub KeepsContents : List Header → Memory → Memory → Type 0
KeepsContents L S T = (b : Header) (a : ℕ) → IsIn b L → 16 * (b.segment + 1) ≤ a → a < 16 * next b → peek T a ≡ peek S a

-- such a call changes no byte of a block of the list that it leaves, used or free, if that list lies in conventional
-- memory, which ends at A000h. (Elsewhere a window can show a block's bytes where a header is)
abbrev pub CallsKeepContents : Type 0
CallsKeepContents =
    (upper : Bool) (S T : Memory) (new : List Header) → Succeeds upper S T → IsArena T first_header new →
    first_header + paragraphs_taken new ≤ 0xA000
    → KeepsContents new S T
