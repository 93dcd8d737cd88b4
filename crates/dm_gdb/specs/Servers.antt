-- A session of the protocol: what each request changes, and what is replied.
-- Source: GDB manual, "GDB Remote Serial Protocol", "Packets", "General Query Packets" and "vCont".
use Rattle.std.specs.Prelude.{◌≡◌, ◌<◌, ◌≤◌, ◌⊎◌, ℕ, ◌+◌, ◌-◌, ◌*◌, Bool, true, false, ◌==◌, nat_lt, if◌then◌else◌, List, ◌∷◌, ◌++◌, length, drop, Option, Some, None}
use Rattle.hex.specs.Hex.{encode_lower}
use Rattle.dm_services.specs.declared.state.stop.Stop.{Stop}
use Rattle.dm_services.specs.declared.state.stop.Stop.TheVariants as stop
use Rattle.dm_services.specs.state.State.{State}
use Rattle.dm_space.specs.Memory.{Memory}
use Rattle.dm_space.specs.Buffers.{with_bytes}
use Rattle.dm_debug.specs.Sessions.{Displays, new_session}
use Rattle.dm_history.specs.declared.change.Change.TheVariants as change
use Rattle.dm_history.specs.Timelines.{Timeline, new_timeline, with_change, GoesBack}
use Rattle.dm_requests.specs.declared.commands.command.Command.{Command}
use Rattle.dm_requests.specs.commands.Commands.{command_of}
use Rattle.dm_cpu.specs.declared.cpu.Cpu.{Cpu}
use Rattle.dm_machine.specs.Run.{IsRun}
use Rattle.dm_requests.specs.declared.request.Point.{Point}
use Rattle.dm_requests.specs.declared.request.Request.{Request}
use Rattle.dm_requests.specs.declared.request.Request.TheVariants as request
use Rattle.dm_gdb.specs.declared.replies.Reply.{Reply}
use Rattle.dm_gdb.specs.declared.replies.Reply.TheVariants as reply
use Rattle.dm_target.specs.Memory.{segment_below, readable, bytes_from, reads_as}
use Rattle.dm_target.specs.Registers.{has_register, register_bytes, all_registers}
use Rattle.dm_target.specs.Settings.{registers_with}
use Rattle.dm_gdb.specs.Description.{features_reply}
use Rattle.dm_gdb.specs.Checking.{ChecksFrom, is_check}
use Rattle.dm_gdb.specs.Monitor.{is_shown, is_shown_line, step_asked, text_reply, stepped_reply}
use Rattle.dm_target.specs.declared.going.Pause.{Pause}
use Rattle.dm_target.specs.declared.going.Pause.TheVariants as pause
use Rattle.dm_target.specs.Going.{is_among, code_address, Continues}
use Rattle.dm_target.specs.declared.undoing.Undone.{Undone}
use Rattle.dm_target.specs.declared.undoing.Undone.TheVariants as undone
use Rattle.dm_target.specs.Undoing.{Undoes}
use Rattle.dm_target.specs.Returning.{Returns}
use Rattle.dm_target.specs.Points.{Set, none_set, with_point, without_point}
use Rattle.dm_gdb.specs.Replies.{stop_reply}

-- the machine and its history, the breakpoints and watchpoints, how many bytes of the console's output were sent, the
-- linear address of the program's first segment, and whether the program has ended, or the debugger has ended it
pub record Served : Type 0 where
  pub history : Timeline
  pub points : Set
  pub shown : ℕ
  pub base : ℕ
  pub ended : Bool

-- the linear address of the program's first segment, by the registers with which it starts: that of the program segment
-- prefix, where DS points, for a COM program; ten paragraphs more for an MZ program, whose image lies behind the prefix
abbrev pub first_segment_address : Cpu → ℕ
first_segment_address c = if c.cs == c.ds then c.ds * 16 else (c.ds + 0x10) * 16

-- the session over a machine on which a program was loaded, without breakpoints
abbrev pub new_server : State → Served
new_server m = record {
  history = new_timeline m;
  points = none_set;
  shown = 0;
  base = first_segment_address m.cpu;
  ended = false;
}

-- the reply to a request that asks for nothing of the machine, or for nothing that this server has
abbrev pub plain_reply : Request → Reply
plain_reply request.Why = reply.Signal 0x05
plain_reply request.Supported = reply.Abilities
plain_reply request.Attached = reply.Started
plain_reply request.CurrentThread = reply.CurrentThread
plain_reply request.MoreThreads = reply.NoMoreThreads
plain_reply request.ContinueKinds = reply.ContinueKinds
plain_reply request.Symbols = reply.Done
plain_reply request.StopAcknowledging = reply.Done
plain_reply request.SetThread = reply.Done
plain_reply request.IsAlive = reply.Done
plain_reply request.Extended = reply.Done
plain_reply request.Kill = reply.Done
plain_reply request.Detach = reply.Done
plain_reply request.Malformed = reply.Refused 0x01
plain_reply _ = reply.Unknown

-- the reply where steps ended for this reason
abbrev pub arrival_reply : List ℕ → Pause → State → Reply
arrival_reply breaks (pause.Stopped why) s = stop_reply why
arrival_reply breaks (pause.Hit point) s = reply.Watch point
arrival_reply breaks pause.Arrived s = if is_among breaks (code_address s) then reply.Breakpoint else reply.Signal 0x05

-- the reply where the steps of one step or of a range ended for this reason
abbrev pub step_reply : List ℕ → Pause → State → Reply
step_reply breaks (pause.Stopped stop.Steps) s = reply.Signal 0x05
step_reply breaks why s = arrival_reply breaks why s

-- the bytes of a register in hexadecimal; an error if there is none of this number
abbrev pub register_reply : State → ℕ → Reply
register_reply s n = if has_register n then reply.Bytes (register_bytes s n) else reply.Refused 0x01

-- bytes from an address up; fewer where memory ends, and an error where there is none at the address
abbrev pub memory_reply : Memory → ℕ → ℕ → Reply
memory_reply m address count = if nat_lt 0x10FFEF address then reply.Refused 0x0E else
    reply.Bytes (bytes_from m address (readable address count))

-- the reply to a write: an error if memory does not have the bytes after it, because some of it is ROM or nothing
abbrev pub written_reply : Memory → ℕ → List ℕ → Reply
written_reply m address bytes = if reads_as m address bytes then reply.Done else reply.Refused 0x0E

-- the memory after a write of bytes from an address up
abbrev pub memory_written : Memory → ℕ → List ℕ → Memory
memory_written m address bytes = with_bytes m (segment_below address) (address - segment_below address * 16) bytes

-- the session with t as the state of its machine
abbrev pub at_state : Served → State → Served
at_state s t = record s { history = record s.history { machine = t } }

-- the session after a write
abbrev pub after_write : Served → ℕ → List ℕ → Served
after_write s address bytes = record s {
  history = with_change s.history (change.Written (segment_below address)
      (address - segment_below address * 16) bytes);
}

-- the session after a request to set a breakpoint or watchpoint
abbrev pub with_inserted : Served → Point → Served
with_inserted s point = record s { points = with_point s.points point }

-- the session after a request to remove a breakpoint or watchpoint
abbrev pub with_removed : Served → Point → Served
with_removed s point = record s { points = without_point s.points point }

-- whether the reply says that the program has ended
abbrev pub is_exit : Reply → Bool
is_exit (reply.Exited code) = true
is_exit _ = false

-- the session after steps with this reply: with t as the state of its machine
abbrev pub gone : Served → Reply → State → Served
gone s told t = record s { history = record s.history { machine = t }; ended = is_exit told }

-- the session after going back, with this history
abbrev pub with_timeline : Served → Timeline → Served
with_timeline s q = record s { history = q; ended = false }

-- the session after the program was started again: its output is sent anew
abbrev pub restarted : Served → Served
restarted s = record s { history = new_timeline s.history.beginning; shown = 0; ended = false }

-- the reply where going back ended in this state
abbrev pub undone_reply : List ℕ → Undone → State → Reply
undone_reply breaks undone.Begun t = reply.Begun
undone_reply breaks (undone.Hit point) t = reply.Watch point
undone_reply breaks undone.Back t = if is_among breaks (code_address t) then reply.Breakpoint else reply.Signal 0x05

-- the threads: one, and none once the program has ended
abbrev pub threads_reply : Bool → Reply
threads_reply ended = if ended then reply.NoMoreThreads else reply.Threads

-- the registers with one set to bytes; None if it cannot be set to them
abbrev pub registers_after : State → ℕ → List ℕ → Option Cpu
registers_after m n bytes = registers_with m.memory m.cpu n bytes

-- the reply where registers were set to these; an error for None
abbrev pub setting_reply : Option Cpu → Reply
setting_reply None = reply.Refused 0x01
setting_reply (Some c) = reply.Done

-- the session with these registers; as it is for None
abbrev pub with_registers : Served → Option Cpu → Served
with_registers s None = s
with_registers s (Some c) = record s { history = with_change s.history (change.Registers c) }

-- whether the request asks for nothing of the machine, or for nothing that this server has
abbrev pub is_plain : Request → Bool
is_plain request.Registers = false
is_plain (request.Register n) = false
is_plain (request.Memory address count) = false
is_plain (request.SetMemory address bytes) = false
is_plain (request.Insert point) = false
is_plain (request.Remove point) = false
is_plain (request.SetRegister n bytes) = false
is_plain (request.Features offset count) = false
is_plain request.Offsets = false
is_plain (request.Command line) = false
is_plain request.FirstThreads = false
is_plain request.EndProgram = false
is_plain request.Step = false
is_plain request.Continue = false
is_plain (request.Range start end) = false
is_plain request.StepBack = false
is_plain request.ContinueBack = false
is_plain request.Restart = false
is_plain _ = true

-- what is replied to a request, and the session after it; a way to go on makes at most `most` steps
pub data Replies (s : Served) (most : ℕ) : Request → Reply → Served → Type 0 where
  plain : (r : Request) → is_plain r ≡ true → Replies s most r (plain_reply r) s
  registers : Replies s most request.Registers (reply.Bytes (all_registers s.history.machine)) s
  register : (n : ℕ) → Replies s most (request.Register n) (register_reply s.history.machine n) s
  memory : (address count : ℕ) → Replies s most (request.Memory address count)
      (memory_reply s.history.machine.memory address count) s
  writes : (address : ℕ) (bytes : List ℕ) → address ≤ 0x10FFEF → address + length bytes ≤ 0x10FFF0
      → Replies s most (request.SetMemory address bytes) (written_reply (memory_written s.history.machine.memory address
      bytes) address bytes) (after_write s address bytes)
  out_of_reach : (address : ℕ) (bytes : List ℕ) → (0x10FFEF < address) ⊎ (0x10FFF0 < address + length bytes) →
      Replies s most (request.SetMemory address bytes) (reply.Refused 0x0E) s
  inserts : (point : Point) → Replies s most (request.Insert point) reply.Done (with_inserted s point)
  removes : (point : Point) → Replies s most (request.Remove point) reply.Done (with_removed s point)
  sets : (n : ℕ) (bytes : List ℕ) → Replies s most (request.SetRegister n bytes)
      (setting_reply (registers_after s.history.machine n bytes)) (with_registers s
      (registers_after s.history.machine n bytes))
  describes : (offset count : ℕ) → Replies s most (request.Features offset count) (features_reply offset count) s
  places : Replies s most request.Offsets (reply.Offsets s.base) s
  threads : Replies s most request.FirstThreads (threads_reply s.ended) s
  ends : Replies s most request.EndProgram reply.Done (record s { ended = true })
  shows : (line : List ℕ) (command : Command) (text : List ℕ) → step_asked line ≡ None → is_check line ≡ false →
      command_of line ≡ Some command → is_shown command ≡ true → Displays (new_session s.history.machine) command text
      → Replies s most (request.Command line) (text_reply text) s
  helps : (line : List ℕ) → step_asked line ≡ None → is_check line ≡ false → is_shown_line (command_of line) ≡ false →
      Replies s most (request.Command line) reply.Help s
  goes_to : (line : List ℕ) (n : ℕ) (why : Stop) (t : State) → step_asked line ≡ Some n → s.history.machine.steps ≤ n →
      IsRun s.history.machine (n - s.history.machine.steps) why t
      → Replies s most (request.Command line) (stepped_reply why) (at_state s t)
  goes_back : (line : List ℕ) (n : ℕ) (q : Timeline) → step_asked line ≡ Some n → n < s.history.machine.steps →
      GoesBack s.history n q → Replies s most (request.Command line) reply.Done (with_timeline s q)
  has_passed : (line : List ℕ) (n : ℕ) → step_asked line ≡ Some n → n < s.history.beginning.steps →
      Replies s most (request.Command line) reply.Passed s
  checks : (line : List ℕ) (told : Reply) (t : State) → is_check line ≡ true → ChecksFrom s.history.machine told t →
      Replies s most (request.Command line) told (at_state s t)
  steps_back : (what : Undone) (q : Timeline) → Undoes s.points.watches s.history what q →
      Replies s most request.StepBack (undone_reply s.points.breaks what q.machine) (with_timeline s q)
  continues_back : (what : Undone) (q : Timeline) → Returns s.points.breaks s.points.watches s.history what q →
      Replies s most request.ContinueBack (undone_reply s.points.breaks what q.machine) (with_timeline s q)
  restarts : Replies s most request.Restart (reply.Signal 0x05) (restarted s)
  steps : (why : Pause) (t : State) → Continues s.points.breaks s.points.watches None s.history.machine 1 why t
      → Replies s most request.Step (step_reply s.points.breaks why t) (gone s (step_reply s.points.breaks why t) t)
  continues : (why : Pause) (t : State) → Continues s.points.breaks s.points.watches None s.history.machine most why t
      → Replies s most request.Continue (arrival_reply s.points.breaks why t)
      (gone s (arrival_reply s.points.breaks why t) t)
  ranges : (start end : ℕ) (why : Pause) (t : State) → Continues s.points.breaks s.points.watches
      (Some (record { start = start; end = end })) s.history.machine most why t
      → Replies s most (request.Range start end) (step_reply s.points.breaks why t)
      (gone s (step_reply s.points.breaks why t) t)

-- the packet of console output that was not sent yet: `O` and the bytes in hexadecimal
abbrev pub console_text : Served → List ℕ
console_text s = 79 ∷ encode_lower (drop s.shown s.history.machine.console.output)

-- output that was not sent yet is appended as a packet, and counts as sent; or there is none, and nothing changes
abbrev pub PutsConsole : Served → List ℕ → Bool → List ℕ → Served → Type 0
PutsConsole s before true after t = (s.shown < length s.history.machine.console.output) ×
    (after ≡ before ++ console_text s) × (t ≡ record s { shown = length s.history.machine.console.output })
PutsConsole s before false after t = (length s.history.machine.console.output ≤ s.shown) × (after ≡ before) × (t ≡ s)
