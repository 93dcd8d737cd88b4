-- The processes that are alive, and what starting and ending one does: MS-DOS Programmer's Reference, functions 4Bh,
-- 4Ch, 31h and 4Dh. A process is named by the segment of its program segment prefix. `upper` is the setting whether
-- upper memory belongs to the arena, and a store is a list of programs, each a name and the bytes of its file.
use Rattle.std.specs.Prelude.{◌≡◌, Bool, ◌≢◌, ℕ, ◌+◌, ◌<◌, ◌⊎◌, false, List, [], ◌∷◌, ◌++◌, length, Result, Ok, Err, All}
use Rattle.dm_space.specs.Memory.{Memory}
use Rattle.dm_arena.specs.declared.fit.Strategy.{Strategy}
use Rattle.dm_arena.specs.declared.refusal.ArenaRefusal.TheVariants as arena
use Rattle.dm_arena.specs.declared.refusal.ArenaRefusal.{ArenaRefusal}
use Rattle.dm_blocks.specs.Chain.{first_header}
use Rattle.dm_arena.specs.Pair.{Planned, IsPair}
use Rattle.dm_arena.specs.Owned.{Releases, Resizes}
use Rattle.dm_load.specs.Image.{relocated}
use Rattle.dm_cpu.specs.declared.cpu.Cpu.{Cpu}
use Rattle.dm_cpu.specs.Guest.{guest}
use Rattle.dm_cpu.specs.Stack.{interrupt_return}
use Rattle.dm_proc.specs.declared.parent.Parent.{Parent}
use Rattle.dm_proc.specs.declared.refusal.ExecRefusal.{ExecRefusal}
use Rattle.dm_proc.specs.declared.refusal.ExecRefusal.TheVariants.{Function, NotFound, BadFormat, Environment, Destroyed, Short}
use Rattle.dm_proc.specs.declared.refusal.ArenaDestroyed.{ArenaDestroyed}
use Rattle.dm_proc.specs.declared.parent.Ending.{Ending}
use Rattle.dm_proc.specs.declared.parent.Ending.TheVariants.{Returned, Exited}
use Rattle.dm_proc.specs.Writes.{apply, upwards, block, bytes_from}
use Rattle.dm_proc.specs.Request.{action, NamesGood, NameRefused, Passed, passed, environment_segment, load_segment, relocation_factor}
use Rattle.dm_proc.specs.Environment.{AreVariables, NoVariables, environment}
use Rattle.dm_proc.specs.Room.{paragraphs, least, most}
use Rattle.dm_arena.specs.Pair.{Placed, Pairs}
use Rattle.dm_proc.specs.Start.{start_writes, start_registers, prefix}

-- the processes: the segment of the present one, 0 while no program is loaded; those that wait for a child, the
-- innermost last; and the word that function 4Dh returns, 0 once it is read
pub record Processes : Type 0 where
  pub present : ℕ
  pub parents : List Parent
  pub code : ℕ

-- a program is loaded: the present process has a segment other than 0, and so has each that waits
pub record AreLoaded (ps : Processes) : Type 0 where
  pub present : 0 < ps.present
  pub parents : All (λ p. 0 < p.segment) ps.parents

-- the registers after a call of function 4Bh that succeeds: IP, CS and FLAGS popped from the stack, then CF clear
unfoldable pub return_registers : Cpu → Memory → Cpu
return_registers c m =
    let r = (interrupt_return (guest c m)).cpu in
    record r { flags = record r.flags { carry = false } }

-- the two blocks of a program allocated, from memory m to memory n, for an environment of `count` bytes and for the
-- program in `file`: `answer` is where they are, with their headers written; or an error, and then n is m
abbrev pub Plans : Bool → Memory → Strategy → ℕ → List ℕ → Result Placed ArenaRefusal → Memory → Type 0
Plans upper m strategy count file answer n = Pairs upper m strategy (paragraphs count) (least file) (most file) answer n

-- both blocks of a program can be allocated: there is room, and the new list of blocks would be clear
abbrev pub IsPlanned : Bool → Memory → Strategy → ℕ → List ℕ → Type 0
IsPlanned upper m strategy count file = (pair : Planned) × IsPair upper m first_header strategy (paragraphs count)
    (least file) (most file) pair

-- the error says why the blocks for an environment of `count` bytes and for the program in `file` cannot be allocated:
-- `Destroyed` if memory spells no clear list of blocks, or the new list would not be clear; `Short` if there is no room
-- for both. It holds of no other error
abbrev pub PlanRefused : Bool → Memory → Strategy → ℕ → List ℕ → ExecRefusal → Type 0
PlanRefused upper m strategy count file Destroyed = Plans upper m strategy count file (Err arena.Destroyed) m
PlanRefused upper m strategy count file Short = (room : ℕ) ×
    Plans upper m strategy count file (Err (arena.Short room)) m
PlanRefused upper m strategy count file _ = ⊥

-- both blocks of a program are allocated, which leaves `middle`, and then environment, prefix, image and a COM
-- program's zero word are written, which leaves n. The prefix is made from memory m, as it was before
pub record Starts (upper : Bool) (m : Memory) (strategy : Strategy) (environment file : List ℕ) (parent : ℕ)
    (a : Passed) (placed : Placed) (n : Memory) : Type 0 where
  pub middle : Memory
  pub plans : Plans upper m strategy (length environment) file (Ok placed) middle
  pub memory : n ≡ apply (start_writes middle.a20 placed environment (prefix m placed parent a) file) middle

-- what a call of function 4Bh with AL = 0 asks for: the name of a program that can be loaded, and the variables for
-- its environment
pub record Asks (ps : Processes) (c : Cpu) (m : Memory) (store : List (List ℕ × List ℕ)) : Type 0 where
  pub action : action c ≡ 0
  pub name : List ℕ
  pub file : List ℕ
  pub names : NamesGood c m store name file
  pub variables : List ℕ
  pub old : AreVariables m (environment_segment m ps.present c) variables

-- the bytes of the child's environment: the variables that are copied, and the program's name
abbrev pub environment_of : {ps : Processes} {c : Cpu} {m : Memory} {store : List (List ℕ × List ℕ)} →
    Asks ps c m store → List ℕ
environment_of a = environment a.variables a.name

-- a child is started: its blocks are allocated and written, the registers are its own, and the present process waits
-- with the registers that the call returns; the word for 4Dh stays. Before the call at most fourteen processes wait
pub record Execs (upper : Bool) (ps : Processes) (c : Cpu) (m : Memory) (store : List (List ℕ ×
    List ℕ)) (strategy : Strategy) (qs : Processes) (d : Cpu) (n : Memory) : Type 0 where
  pub asks : Asks ps c m store
  pub few : length ps.parents < 15
  pub placed : Placed
  pub starts : Starts upper m strategy (environment_of asks) asks.file ps.present (passed c m) placed n
  pub registers : d ≡ start_registers placed asks.file
  pub processes : qs ≡ record ps {
    present = placed.program;
    parents = ps.parents ++ record { segment = ps.present; cpu = return_registers c m } ∷ [];
  }

-- why no child is started, in the order in which the errors are tried: AL is not 0 (DOS error 1), no such name (2), a
-- file that can't be loaded (11), no end of the environment (10), no clear list of blocks (7), no room (8), a new
-- list that is not clear (7), sixteen processes alive (8). The cases are written by error; each holds only where the
-- errors before it do not: `NamesGood` says that name and file are good, `Asks` that the environment has an end too,
-- `PlanRefused` has the next three in their order, and `IsPlanned` says that both blocks can be written. Fifteen
-- processes wait if the present one is the sixteenth
abbrev pub ExecRefused : Bool → Processes → Cpu → Memory → List (List ℕ × List ℕ) → Strategy → ExecRefusal → Type 0
ExecRefused upper ps c m store strategy Function = action c ≢ 0
ExecRefused upper ps c m store strategy NotFound = (action c ≡ 0) × NameRefused c m store NotFound
ExecRefused upper ps c m store strategy BadFormat = (action c ≡ 0) × NameRefused c m store BadFormat
ExecRefused upper ps c m store strategy Environment =
    (action c ≡ 0) × ((name : List ℕ) × (file : List ℕ) × NamesGood c m store name file) ×
    NoVariables m (environment_segment m ps.present c)
ExecRefused upper ps c m store strategy Destroyed = (a : Asks ps c m store) ×
    PlanRefused upper m strategy (length (environment_of a)) a.file Destroyed
ExecRefused upper ps c m store strategy Short =
    (a : Asks ps c m store) × (PlanRefused upper m strategy (length (environment_of a)) a.file Short ⊎
    (IsPlanned upper m strategy (length (environment_of a)) a.file × (length ps.parents ≡ 15)))

-- function 4Bh with AL = 0: the processes, registers and memory after the call are qs, d and n; an error changes
-- nothing
abbrev pub Executes : Bool → Processes → Cpu → Memory → List (List ℕ × List ℕ) → Strategy →
    Result (Unit {0}) ExecRefusal → Processes → Cpu → Memory → Type 0
Executes upper ps c m store strategy (Ok x) qs d n = Execs upper ps c m store strategy qs d n
Executes upper ps c m store strategy (Err e) qs d n = (qs ≡ ps) × (d ≡ c) × (n ≡ m) ×
    ExecRefused upper ps c m store strategy e

-- the first program is started, with these variables: it is the only process, and its parent's segment is 0
pub record Begins (upper : Bool) (m : Memory) (strategy : Strategy) (file variables name : List ℕ) (a : Passed)
    (qs : Processes) (d : Cpu) (n : Memory) : Type 0 where
  pub placed : Placed
  pub starts : Starts upper m strategy (environment variables name) file 0 a placed n
  pub registers : d ≡ start_registers placed file
  pub processes : qs ≡ record { present = placed.program; parents = []; code = 0 }

-- the load of the first program, from memory m to memory n: it returns the processes, and the registers that the
-- program starts with; an error leaves memory unchanged
abbrev pub Loads : Bool → Memory → Strategy → List ℕ → List ℕ → List ℕ → Passed → Result (Processes × Cpu) ExecRefusal →
    Memory → Type 0
Loads upper m strategy file variables name a (Ok r) n = Begins upper m strategy file variables name a r.0 r.1 n
Loads upper m strategy file variables name a (Err e) n = (n ≡ m) ×
    PlanRefused upper m strategy (length (environment variables name)) file e

-- function 4Bh with AL = 3 succeeds: the image, relocated by the factor in the parameter block, is written from the
-- load segment up; nothing else changes
pub record Lays (c : Cpu) (m : Memory) (store : List (List ℕ × List ℕ)) (n : Memory) : Type 0 where
  pub action : action c ≡ 3
  pub name : List ℕ
  pub file : List ℕ
  pub names : NamesGood c m store name file
  pub memory : n ≡ apply (block m.a20 (load_segment c m) (relocated file (relocation_factor c m))) m

-- why no overlay is loaded: AL is not 3, no such name, or a file that can't be loaded
abbrev pub OverlayRefused : Cpu → Memory → List (List ℕ × List ℕ) → ExecRefusal → Type 0
OverlayRefused c m store Function = action c ≢ 3
OverlayRefused c m store NotFound = (action c ≡ 3) × NameRefused c m store NotFound
OverlayRefused c m store BadFormat = (action c ≡ 3) × NameRefused c m store BadFormat
OverlayRefused c m store _ = ⊥

-- function 4Bh with AL = 3, from memory m to memory n; an error leaves memory unchanged. No register changes here
abbrev pub Overlays : Cpu → Memory → List (List ℕ × List ℕ) → Result (Unit {0}) ExecRefusal → Memory → Type 0
Overlays c m store (Ok x) n = Lays c m store n
Overlays c m store (Err e) n = (n ≡ m) × OverlayRefused c m store e

-- memory with the vectors of interrupts 22h to 24h restored from the prefix at the segment, offset 0Ah. All 12 bytes
-- are read before the first is written
unfoldable pub vectors_back : Memory → ℕ → Memory
vectors_back m segment = apply (upwards m.a20 0 0x88 (bytes_from m segment 0x0A 12)) m

-- who runs after the present process has ended: its parent, the innermost that waits, with the registers it waits
-- with; after the first program nobody, and registers and present process stay. Either way `word` is kept for
-- function 4Dh
abbrev pub GoesOn : Processes → Cpu → ℕ → Ending → Processes → Cpu → Type 0
GoesOn ps c word Returned qs d =
    (p : Parent) × (ps.parents ≡ qs.parents ++ p ∷ []) × (qs ≡ record {
      present = p.segment;
      parents = qs.parents;
      code = word;
    }) × (d ≡ p.cpu)
GoesOn ps c word Exited qs d = (ps.parents ≡ []) × (qs ≡ record ps { code = word }) × (d ≡ c)

-- the present process ends, once its blocks are freed or kept: the vectors 22h to 24h are restored from its prefix, and
-- `GoesOn` says who runs then
pub record Ends (ps : Processes) (c : Cpu) (m : Memory) (word : ℕ) (ending : Ending) (qs : Processes) (d : Cpu)
    (n : Memory) : Type 0 where
  pub memory : n ≡ vectors_back m ps.present
  pub goes_on : GoesOn ps c word ending qs d

-- the end of the present process with an exit code (functions 00h and 4Ch, INT 20h, a divide error): its blocks are
-- freed, and then it ends as `Ends` says, with the code for 4Dh. Where the arena is destroyed nothing changes
abbrev pub Terminates : Bool → Processes → Cpu → Memory → ℕ → Result Ending ArenaDestroyed → Processes → Cpu → Memory →
    Type 0
Terminates upper ps c m code (Ok ending) qs d n =
    (freed : Memory) × Releases upper m ps.present (Ok tt) freed × Ends ps c freed code ending qs d n
Terminates upper ps c m code (Err e) qs d n = (qs ≡ ps) × (d ≡ c) × (n ≡ m) ×
    Releases upper m ps.present (Err arena.Destroyed) m

-- function 31h: the block of the present process is resized to `paragraphs`, or stays if that is not possible; none of
-- its blocks is freed, and it ends as `Ends` says, with the word for 4Dh. Where the arena is destroyed, or would be,
-- nothing changes
abbrev pub StaysResident : Bool → Processes → Cpu → Memory → ℕ → ℕ → Result Ending ArenaDestroyed → Processes → Cpu →
    Memory → Type 0
StaysResident upper ps c m code paragraphs (Ok ending) qs d n =
    (answer : Result (Unit {0}) ArenaRefusal) × (kept : Memory) × Resizes upper m ps.present paragraphs answer kept ×
    (answer ≢ Err arena.Destroyed)
    × Ends ps c kept (0x300 + code) ending qs d n
StaysResident upper ps c m code paragraphs (Err e) qs d n = (qs ≡ ps) × (d ≡ c) × (n ≡ m) ×
    Resizes upper m ps.present paragraphs (Err arena.Destroyed) m
