-- The functions of INT 21h that allocate memory, which act on the arena that memory spells:
-- MS-DOS Programmer's Reference, functions 48h, 49h and 4Ah. The error codes are 7 (arena destroyed), 8 (not enough
-- memory) and 9 (no such block). With an error, memory stays.
use Rattle.std.specs.Prelude.{◌≡◌, ℕ, Bool, true, false, Result, Ok, Err}
use Rattle.dm_space.specs.Memory.{Memory}
use Rattle.dm_cpu.specs.declared.cpu.Cpu.{Cpu}
use Rattle.dm_arena.specs.declared.refusal.ArenaRefusal.{ArenaRefusal}
use Rattle.dm_arena.specs.declared.refusal.ArenaRefusal.TheVariants.{Destroyed, Short, NoBlock}
use Rattle.dm_arena.specs.Allocation.{Allocates}
use Rattle.dm_arena.specs.Owned.{Frees, Resizes}
use Rattle.dm_services.specs.state.State.{State, Answer, go, interrupt_returned, with_carry}

-- the return from 48h, 49h, 4Ah, 4Bh or 58h with registers c, memory m and CF: IP, CS and FLAGS are popped, CF is set
-- or cleared, and the step is counted
abbrev pub answered : State → Cpu → Memory → Bool → Answer
answered s c m carry = go (with_carry (interrupt_returned (record s { cpu = c; memory = m })) carry)

-- the registers c with the error code of a failed call of 48h, 49h, 4Ah or 58h in AX; for error 8, BX is the largest
-- size possible, in paragraphs
abbrev pub refused : Cpu → ArenaRefusal → Cpu
refused c Destroyed = record c { ax = 7 }
refused c (Short largest) = record c { ax = 8; bx = largest }
refused c NoBlock = record c { ax = 9 }

-- 48h, by its result and the memory m after it: AX is the block's segment, CF = 0; or AX is the error code (and for
-- error 8, BX the largest size), CF = 1
abbrev pub allocated : State → Result ℕ ArenaRefusal → Memory → Answer
allocated s (Ok segment) m = answered s (record s.cpu { ax = segment }) m false
allocated s (Err e) m = answered s (refused s.cpu e) m true

-- 48h: allocates BX paragraphs for the present process, by the allocation strategy, or fails
pub record Allocation (s : State) (x : Answer) : Type 0 where
  pub result : Result ℕ ArenaRefusal
  pub memory : Memory
  pub allocates : Allocates s.upper s.memory s.strategy s.cpu.bx s.processes.present result memory
  pub answer : x ≡ allocated s result memory

-- 49h, 4Ah, and 58h with AL = 3, by the result and the memory m after it: CF = 0, and no register but those of the
-- return changes; or AX is the error code (and for error 8, BX the largest size), CF = 1
abbrev pub settled : State → Result (Unit {0}) ArenaRefusal → Memory → Answer
settled s (Ok u) m = answered s s.cpu m false
settled s (Err e) m = answered s (refused s.cpu e) m true

-- 49h: the block at segment ES is freed, or the call fails
pub record Freeing (s : State) (x : Answer) : Type 0 where
  pub result : Result (Unit {0}) ArenaRefusal
  pub memory : Memory
  pub frees : Frees s.upper s.memory s.cpu.es result memory
  pub answer : x ≡ settled s result memory

-- 4Ah: the block at segment ES is resized to BX paragraphs, or the call fails
pub record Resizing (s : State) (x : Answer) : Type 0 where
  pub result : Result (Unit {0}) ArenaRefusal
  pub memory : Memory
  pub resizes : Resizes s.upper s.memory s.cpu.es s.cpu.bx result memory
  pub answer : x ≡ settled s result memory
