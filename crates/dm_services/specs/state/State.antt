-- The state of the machine, and what a step returns.
use Rattle.std.specs.Prelude.{◌≡◌, ◌⊎◌, ℕ, ◌+◌, ◌-◌, ◌^◌, ◌<◌, min, Bool, List, Option, Some, None, IfSome}
use Rattle.dm_pool.specs.Blocks.{IsLive}
use Rattle.dm_space.specs.Memory.{Memory}
use Rattle.dm_ems.specs.Tables.{Tables, expanded}
use Rattle.dm_ems.specs.Consistent.{IsOwned, IsConsistent}
use Rattle.dm_xms.specs.Tables as xms
use Rattle.dm_xms.specs.Tables.{extended}
use Rattle.dm_xms.specs.Consistent as extended_memory
use Rattle.dm_xms.specs.Consistent.{handle_at}
use Rattle.dm_xms.specs.declared.tables.Handle.{Handle}
use Rattle.dm_cpu.specs.declared.cpu.Cpu.{Cpu}
use Rattle.dm_cpu.specs.Guest.{Guest, guest}
use Rattle.dm_cpu.specs.Stack.{interrupt_return}
use Rattle.dm_cpu.specs.Stack as stack
use Rattle.dm_console.specs.Streams.{Streams}
use Rattle.dm_arena.specs.declared.fit.Strategy.{Strategy}
use Rattle.dm_proc.specs.Processes.{Processes}
use Rattle.dm_services.specs.declared.state.stop.Stop.{Stop}
use Rattle.dm_pool.specs.declared.sizes.Sizes.{Sizes}

-- the state of the machine: registers, memory, the tables of expanded and extended memory, console, processes,
-- allocation strategy, the first program's exit code, count of steps, and what no step changes
pub record State : Type 0 where
  pub cpu : Cpu
  pub memory : Memory
  -- the handles and pages of expanded memory
  pub ems : Tables
  -- the handles of extended memory, what keeps A20 on, and upper memory blocks
  pub xms : xms.Tables
  pub console : Streams
  pub processes : Processes
  -- which free block an allocation takes
  pub strategy : Strategy
  -- the code with which the first program ended
  pub exited : Option ℕ
  -- how many steps were made; at 2^64 - 1 the count stays
  pub steps : ℕ
  -- what no step changes: the store of programs (names and files), the variables of the first program's environment,
  -- each closed by a zero, the sizes of expanded and extended memory, and whether upper memory belongs to the arena
  pub programs : List (List ℕ × List ℕ)
  pub variables : List ℕ
  pub sizes : Sizes
  pub upper : Bool

-- a program is loaded, though it may have ended: the present process's segment is not 0
abbrev pub HasProgram : State → Type 0
HasProgram s = 0 < s.processes.present

-- the block of the pool with this number belongs to one of the handles of extended memory
abbrev pub IsHandled : List (Option Handle) → ℕ → Type 0
IsHandled handles block = (k : ℕ) × (h : Handle) × (handle_at handles k ≡ Some h) × (h.block ≡ block)

-- the tables of expanded memory (`pages`) and of extended memory (`blocks`) are consistent with memory m; no block of
-- the pool belongs to both, and each live one belongs to one of them
pub record AreConsistentWith (pages : Tables) (blocks : xms.Tables) (m : Memory) : Type 0 where
  pub ems : IsConsistent (expanded pages m)
  pub xms : extended_memory.IsConsistent (extended blocks m)
  pub apart : (k : ℕ) → IfSome (handle_at blocks.handles k) (λ h. IsOwned pages.pages h.block → ⊥)
  pub whole : (block : ℕ) → IsLive m.blocks block → IsOwned pages.pages block ⊎ IsHandled blocks.handles block

-- the state's tables of expanded and extended memory are consistent with its memory
abbrev pub AreConsistent : State → Type 0
AreConsistent s = AreConsistentWith s.ems s.xms s.memory

-- the result of a step: the stop, if the machine stops, and the state that the step leaves
pub record Answer : Type 0 where
  pub stop : Option Stop
  pub state : State

-- the result of a step after which the machine goes on: no stop, and s with its count of steps one higher; at 2^64 - 1
-- the count stays
abbrev pub go : State → Answer
go s = record { stop = None; state = record s { steps = min (s.steps + 1) (2 ^ 64 - 1) } }

-- the result where the machine stops and no step is made: the stop, and s itself
abbrev pub stop_at : Stop → State → Answer
stop_at stop s = record { stop = Some stop; state = s }

-- the state with the registers and memory of g, as an instruction or a return leaves them; all else stays
abbrev pub with_guest : State → Guest → State
with_guest s g = record s { cpu = g.cpu; memory = g.memory }

-- the state after the return from a service or a driver that was called by INT: IP, CS and FLAGS are popped from SS:SP;
-- memory and the count of steps stay
abbrev pub interrupt_returned : State → State
interrupt_returned s = with_guest s (interrupt_return (guest s.cpu s.memory))

-- the state after the return from the far call of the extended memory driver: IP and CS are popped from SS:SP; FLAGS,
-- memory and the count of steps stay
abbrev pub far_returned : State → State
far_returned s = with_guest s (stack.far_returned (guest s.cpu s.memory) 0)

-- the state with CF set or clear, as the functions of INT 21h return an error or success
abbrev pub with_carry : State → Bool → State
with_carry s b = record s { cpu = record s.cpu { flags = record s.cpu.flags { carry = b } } }
