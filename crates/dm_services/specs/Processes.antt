-- The calls that start and end programs: MS-DOS Programmer's Reference, functions 00h, 31h, 4Bh, 4Ch and 4Dh, and INT
-- 20h. The error codes are 1 (no such call), 2 (no such program), 7 (arena destroyed), 8 (not enough memory, or sixteen
-- processes alive), 10 (no end of the environment) and 11 (bad format).
use Rattle.std.specs.Prelude.{◌≡◌, ℕ, ◌==◌, Bool, true, false, Some, Result, Ok, Err}
use Rattle.dm_space.specs.Memory.{Memory}
use Rattle.dm_cpu.specs.declared.cpu.Cpu.{Cpu}
use Rattle.dm_cpu.specs.Cpu.{byte_of}
use Rattle.dm_ins.specs.declared.operand.ByteRegister.TheVariants.{Al}
use Rattle.dm_proc.specs.declared.refusal.ExecRefusal.{ExecRefusal}
use Rattle.dm_proc.specs.declared.refusal.ExecRefusal.TheVariants.{Function, NotFound, BadFormat, Environment, Destroyed, Short}
use Rattle.dm_proc.specs.declared.refusal.ArenaDestroyed.{ArenaDestroyed}
use Rattle.dm_proc.specs.declared.parent.Ending.{Ending}
use Rattle.dm_proc.specs.declared.parent.Ending.TheVariants.{Returned, Exited}
use Rattle.dm_proc.specs.Processes.{Processes, Executes, Overlays, Terminates, StaysResident}
use Rattle.dm_services.specs.declared.state.stop.Stop.TheVariants as stop
use Rattle.dm_services.specs.state.State.{State, Answer, go, stop_at, interrupt_returned}
use Rattle.dm_services.specs.Allocation.{answered}

-- the error code of a failed call of 4Bh, in AX
abbrev pub code_of : ExecRefusal → ℕ
code_of Function = 1
code_of NotFound = 2
code_of BadFormat = 11
code_of Environment = 10
code_of Destroyed = 7
code_of Short = 8

-- 4Bh fails: AX is the error code, CF = 1; memory and processes stay
abbrev pub not_loaded : State → ExecRefusal → Answer
not_loaded s e = answered s (record s.cpu { ax = code_of e }) s.memory true

-- the state with other processes, registers and memory, as the start or the end of a process leaves them
abbrev pub with_processes : State → Processes → Cpu → Memory → State
with_processes s qs d n = record s { cpu = d; memory = n; processes = qs }

-- 4Bh with AL other than 3, by its result: the child goes on with registers d, processes qs and memory n; or the call
-- fails
abbrev pub executed : State → Result (Unit {0}) ExecRefusal → Processes → Cpu → Memory → Answer
executed s (Ok u) qs d n = go (with_processes s qs d n)
executed s (Err e) qs d n = not_loaded s e

-- 4Bh with AL other than 3: a child is started; or the call fails, with error 1 if AL is not 0
pub record Executing (s : State) (x : Answer) : Type 0 where
  pub result : Result (Unit {0}) ExecRefusal
  pub processes : Processes
  pub cpu : Cpu
  pub memory : Memory
  pub executes : Executes s.upper s.processes s.cpu s.memory s.programs s.strategy result processes cpu memory
  pub answer : x ≡ executed s result processes cpu memory

-- 4Bh with AL = 3, by its result: the call returns with the overlay in memory n and CF = 0; or it fails
abbrev pub overlaid : State → Result (Unit {0}) ExecRefusal → Memory → Answer
overlaid s (Ok u) n = answered s s.cpu n false
overlaid s (Err e) n = not_loaded s e

-- 4Bh with AL = 3: an overlay is loaded, or the call fails
pub record Overlaying (s : State) (x : Answer) : Type 0 where
  pub result : Result (Unit {0}) ExecRefusal
  pub memory : Memory
  pub overlays : Overlays s.cpu s.memory s.programs result memory
  pub answer : x ≡ overlaid s result memory

-- 4Bh, by whether AL is 3: loads an overlay, or starts a child, which fails with error 1 if AL is not 0
abbrev pub LoadingAs : Bool → State → Answer → Type 0
LoadingAs true s x = Overlaying s x
LoadingAs false s x = Executing s x

-- 4Bh from s returns x: by AL, a child is started or an overlay loaded, or the call fails
abbrev pub LoadingProgram : State → Answer → Type 0
LoadingProgram s x = LoadingAs (byte_of s.cpu Al == 3) s x

-- the result of the end of a process with a code, which leaves processes qs, registers d and memory n: the parent goes
-- on with them (Returned); or the machine stops with `Exited`, the step is counted and `exited` is the code; or it
-- stops with `Destroyed`, no step is made and the state is s
abbrev pub concluded : State → ℕ → Result Ending ArenaDestroyed → Processes → Cpu → Memory → Answer
concluded s code (Ok Returned) qs d n = go (with_processes s qs d n)
concluded s code (Ok Exited) qs d n = record {
  stop = Some (stop.Exited code);
  state = (go (record (with_processes s qs d n) { exited = Some code })).state;
}
concluded s code (Err e) qs d n = stop_at stop.Destroyed s

-- 00h, 4Ch, INT 20h and a divide error: the present process ends with the code, its blocks are freed and vectors 22h to
-- 24h restored from its prefix; its parent goes on with the registers that it waits with, or the machine stops
-- (`Exited`). `Destroyed` if memory holds no valid block list, or upper memory in the arena no valid one
pub record Terminating (s : State) (code : ℕ) (x : Answer) : Type 0 where
  pub result : Result Ending ArenaDestroyed
  pub processes : Processes
  pub cpu : Cpu
  pub memory : Memory
  pub terminates : Terminates s.upper s.processes s.cpu s.memory code result processes cpu memory
  pub answer : x ≡ concluded s code result processes cpu memory

-- 31h: the present process ends with the code in AL, its block is resized to DX paragraphs if that is possible, and its
-- other blocks stay allocated; vectors, parent and `Exited` are as in `Terminating`. `Destroyed` if memory holds no
-- valid block list, or would hold none after the resize
pub record StayingResident (s : State) (x : Answer) : Type 0 where
  pub result : Result Ending ArenaDestroyed
  pub processes : Processes
  pub cpu : Cpu
  pub memory : Memory
  pub stays : StaysResident s.upper s.processes s.cpu s.memory (byte_of s.cpu Al) s.cpu.dx result processes cpu memory
  pub answer : x ≡ concluded s (byte_of s.cpu Al) result processes cpu memory

-- 4Dh: AX is the word of the last ending (AL the code, AH 0, or 3 after 31h), which is then 0 until another process
-- ends
unfoldable pub tell_code : State → Answer
tell_code s =
    go (interrupt_returned (record s {
      cpu = record s.cpu { ax = s.processes.code };
      processes = record s.processes { code = 0 };
    }))
