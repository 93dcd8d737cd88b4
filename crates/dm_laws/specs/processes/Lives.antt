-- What a child leaves to its parent: function 4Bh and the child's end together.
-- MS-DOS Programmer's Reference, functions 4Bh and 4Ch, "Program Segment Prefix".
use Rattle.std.specs.Prelude.{Bool, List, Ok, true, ℕ, ◌+◌, ◌≡◌, ◌≤◌}
use Rattle.dm_space.specs.Memory.{Fits, Memory}
use Rattle.dm_blocks.specs.declared.header.Header.{Header}
use Rattle.dm_blocks.specs.Chain.{IsArena, first_header, is_linked}
use Rattle.dm_arena.specs.declared.fit.Strategy.{Strategy}
use Rattle.dm_arena.specs.Blocks.{join}
use Rattle.dm_laws.specs.arena.Pairs.{OwnsNone}
use Rattle.dm_laws.specs.arena.Paragraphs.{paragraphs_taken}
use Rattle.dm_cpu.specs.declared.cpu.Cpu.{Cpu}
use Rattle.dm_proc.specs.declared.parent.Ending.{Ending}
use Rattle.dm_proc.specs.declared.parent.Ending.TheVariants.{Returned}
use Rattle.dm_proc.specs.Processes.{Execs, Processes, Terminates, return_registers}
use Rattle.dm_proc.specs.Writes.{bytes_from}

-- a child is started from processes ps, registers c and memory m, which leaves memory `first`; when it ends, memory is
-- `last`, it is the present process, as after its start, and the same processes wait: children of its own have ended,
-- too. Its end with `code` leaves processes rs, registers r and memory f. What lies between is anything at all
pub record Lives (upper : Bool) (ps : Processes) (c : Cpu) (m : Memory) (store : List (List ℕ ×
    List ℕ)) (strategy : Strategy) (code : ℕ) (rs : Processes) (r : Cpu) (f : Memory) : Type 0 where
  pub started : Processes
  pub first_registers : Cpu
  pub first : Memory
  pub execs : Execs upper ps c m store strategy started first_registers first
  pub ending : Processes
  pub last_registers : Cpu
  pub last : Memory
  pub present : ending.present ≡ started.present
  pub parents : ending.parents ≡ started.parents
  pub answer : Ending
  pub ends : Terminates upper ending last_registers last code (Ok answer) rs r f

-- the parent goes on: the processes are those before the call, but for the exit code, which waits for 4Dh; and the
-- registers are those with which a successful call returns
pub record GoesOnAsParent (ps : Processes) (c : Cpu) (m : Memory) (code : ℕ) (answer : Ending) (rs : Processes)
    (r : Cpu) : Type 0 where
  pub returned : answer ≡ Returned
  pub processes : rs ≡ record ps { code = code }
  pub registers : r ≡ return_registers c m

-- whatever the child has done
abbrev pub ParentGoesOn : Type 0
ParentGoesOn =
    (upper : Bool) (ps rs : Processes) (c r : Cpu) (m f : Memory) (store : List (List ℕ × List ℕ)) (strategy : Strategy)
    (code : ℕ)
    (l : Lives upper ps c m store strategy code rs r f) → GoesOnAsParent ps c m code l.answer rs r

-- the child leaves the list of blocks as it was at its start: `taken`, which has the child's two blocks; and memory has
-- the sizes of the machine, as in every machine
pub record LeavesBlocks (taken : List Header) {upper : Bool} {ps : Processes} {c : Cpu} {m : Memory}
    {store : List (List ℕ × List ℕ)} {strategy : Strategy} {code : ℕ} {rs : Processes} {r : Cpu} {f : Memory}
    (l : Lives upper ps c m store strategy code rs r f) : Type 0 where
  pub fits : Fits l.last
  pub at_first : IsArena l.execs.starts.middle first_header taken
  pub at_last : IsArena l.last first_header taken

-- the list of blocks is back: what memory spells after the end is what it spelled before the call, once free blocks
-- side by side are joined in both. No block had the child's segment as its owner before; and where upper memory belongs
-- to the arena, the list does not come to have a header at the link block's segment by this, which only a list could
-- that passes over that segment
abbrev pub ArenaIsBack : Type 0
ArenaIsBack =
    (upper : Bool) (ps rs : Processes) (c r : Cpu) (m f : Memory) (store : List (List ℕ × List ℕ)) (strategy : Strategy)
    (code : ℕ)
    (l : Lives upper ps c m store strategy code rs r f) (old taken new : List Header) → LeavesBlocks taken l
    → IsArena m first_header old → IsArena f first_header new → OwnsNone l.started.present old
    → (upper ≡ true → is_linked new ≡ is_linked old) → join upper new ≡ join upper old

-- the vectors of interrupts 22h to 24h, 12 bytes at 0000:0088
abbrev pub vectors : Memory → List ℕ
vectors m = bytes_from m 0 0x88 12

-- their copies in the prefix at a segment, 12 bytes at offset 0Ah
abbrev pub saved_vectors : Memory → ℕ → List ℕ
saved_vectors m segment = bytes_from m segment 0x0A 12

-- the vectors are back, if the child leaves the list of blocks, which lies in conventional memory, below A000h, and the
-- copies in its prefix; what it makes of the vectors themselves does not matter
abbrev pub VectorsAreBack : Type 0
VectorsAreBack =
    (upper : Bool) (ps rs : Processes) (c r : Cpu) (m f : Memory) (store : List (List ℕ × List ℕ)) (strategy : Strategy)
    (code : ℕ)
    (l : Lives upper ps c m store strategy code rs r f) (taken : List Header) → LeavesBlocks taken l → Fits m
    → first_header + paragraphs_taken taken ≤ 0xA000 → saved_vectors l.last l.started.present
    ≡ saved_vectors l.first l.started.present
    → vectors f ≡ vectors m
