-- Debugging sessions: what each command changes and prints, and which lines are refused.
-- Source: MS-DOS User's Reference, "DEBUG". The forms, breakpoints and listings beyond it are this machine's own.
use Rattle.std.specs.Prelude.{◌≡◌, ℕ, Bool, true, false, not, List, [], ◌∷◌, ◌++◌, codes, Option, Some, None}
use Rattle.std.specs.Io.KnownBytes.{Appends}
use Rattle.dm_console.specs.writers.Out.{AppendsPart}
use Rattle.dm_space.specs.Buffers.{with_bytes}
use Rattle.dm_services.specs.declared.state.stop.Stop.{Stop}
use Rattle.dm_services.specs.state.State.{State}
use Rattle.dm_machine.specs.declared.until.Breakpoint.{Breakpoint}
use Rattle.dm_machine.specs.Until.{RunsUntil}
use Rattle.dm_requests.specs.declared.commands.command.LogicalAddress.{LogicalAddress}
use Rattle.dm_requests.specs.declared.commands.command.Command.{Command}
use Rattle.dm_requests.specs.declared.commands.command.Command.TheVariants as c
use Rattle.dm_requests.specs.commands.Commands.{command_of}
use Rattle.dm_views.specs.Registers.{IsRegistersText}
use Rattle.dm_views.specs.Code.{IsCode}
use Rattle.dm_views.specs.Bytes.{bytes_text}
use Rattle.dm_views.specs.Arena.{IsArenaText}
use Rattle.dm_views.specs.Pages.{pages_text}
use Rattle.dm_views.specs.Extended.{extended_text}
use Rattle.dm_debug.specs.Debugged.{Debugged}
use Rattle.dm_debug.specs.Points.{is_set, is_seventeenth, with_point, without_point, points_text}
use Rattle.dm_debug.specs.Runs.{GoesTo, IsTrace, TracesPart}

-- the session over a machine with no breakpoints
abbrev pub new_session : State → Debugged
new_session m = record { machine = m; points = [] }

-- ---- what commands change and print

-- the line `ok`, which B, BC and E print
abbrev pub done : List ℕ
done = codes "ok" ++ 10 ∷ []

-- the session with t as the state of its machine; the breakpoints stay
abbrev pub with_machine : Debugged → State → Debugged
with_machine s t = record s { machine = t }

-- the session with these breakpoints; the machine stays
abbrev pub with_points : Debugged → List Breakpoint → Debugged
with_points s points = record s { points = points }

-- the session with bytes written to its machine's memory from an address up, as E does; offsets wrap
abbrev pub with_entered : Debugged → LogicalAddress → List ℕ → Debugged
with_entered s a bytes =
    with_machine s (record s.machine { memory = with_bytes s.machine.memory a.segment a.offset bytes })

-- what a command prints that changes nothing (R, U, D, M, P, X, BL and O): a listing, or what was written to the
-- console
pub data Displays (s : Debugged) : Command → List ℕ → Type 0 where
  registers : (text : List ℕ) → IsRegistersText s.machine.cpu s.machine.memory text → Displays s c.Registers text
  code : (a : LogicalAddress) (n : ℕ) (text : List ℕ) → IsCode s.machine.memory a.segment a.offset n text →
      Displays s (c.Unassemble a n) text
  bytes : (a : LogicalAddress) (n : ℕ) → Displays s (c.Dump a n) (bytes_text s.machine.memory a.segment a.offset n)
  arena : (text : List ℕ) → IsArenaText s.machine.upper s.machine.memory text → Displays s c.Arena text
  pages : Displays s c.Pages (pages_text s.machine.ems s.machine.memory)
  extended : Displays s c.Extended (extended_text s.machine.xms s.machine.memory)
  points : Displays s c.Breakpoints (points_text s.points)
  output : Displays s c.Output s.machine.console.output

-- what a command prints, and the session after it: G and T change the machine, E only its memory, B and BC the
-- breakpoints; other commands change nothing
pub data Does (s : Debugged) : Command → List ℕ → Debugged → Type 0 where
  shows : (command : Command) (text : List ℕ) → Displays s command text → Does s command text s
  goes : (n : ℕ) (text : List ℕ) (t : State) → GoesTo s.machine n s.points text t →
      Does s (c.Go n) text (with_machine s t)
  traces : (n : ℕ) (text : List ℕ) (t : State) → IsTrace s.machine n text t → Does s (c.Trace n) text (with_machine s t)
  sets : (a : LogicalAddress) → Does s (c.Break a) done (with_points s (with_point s.points a))
  clears : (a : LogicalAddress) → Does s (c.Clear a) done (with_points s (without_point s.points a))
  enters : (a : LogicalAddress) (typed : List ℕ) → Does s (c.Enter a typed) done (with_entered s a typed)

-- the session after a command that a failed allocation cut off: nothing has changed; or G has made its run; or T has
-- made some of its steps, or all
pub data DoesPart (s : Debugged) : Command → Debugged → Type 0 where
  nothing : (command : Command) → DoesPart s command s
  ran : (n : ℕ) (why : Option Stop) (t : State) → RunsUntil s.machine n s.points why t →
      DoesPart s (c.Go n) (with_machine s t)
  traced : (n : ℕ) (t : State) → TracesPart s.machine n t → DoesPart s (c.Trace n) (with_machine s t)

-- ---- lines

-- whether the command is BC for a breakpoint that is not set
abbrev pub clears_none : Debugged → Command → Bool
clears_none s (c.Clear a) = not (is_set s.points a)
clears_none s _ = false

-- whether the command is B for a breakpoint that is not set, while sixteen others are
abbrev pub sets_seventeenth : Debugged → Command → Bool
sets_seventeenth s (c.Break a) = is_seventeenth s.points a
sets_seventeenth s _ = false

-- whether the line is no command (None), or clears a breakpoint that is not set
abbrev pub is_syntax : Debugged → Option Command → Bool
is_syntax s None = true
is_syntax s (Some command) = clears_none s command

-- whether the line sets a seventeenth breakpoint
abbrev pub is_full : Debugged → Option Command → Bool
is_full s None = false
is_full s (Some command) = sets_seventeenth s command

-- the line's command was executed, which led from session s to t, and all that it prints was written: `before` and
-- `after` are what `out` had taken before and after
pub record IsAnswered (s : Debugged) (line : List ℕ) (t : Debugged) (before after : Option (List ℕ)) : Type 0 where
  pub command : Command
  pub text : List ℕ
  pub read : command_of line ≡ Some command
  pub does : Does s command text t
  pub written : Appends before after text

-- an allocation failed for the line's command, and what was executed of it, perhaps nothing, led from session s to t
pub record IsCutOff (s : Debugged) (line : List ℕ) (t : Debugged) : Type 0 where
  pub command : Command
  pub read : command_of line ≡ Some command
  pub part : DoesPart s command t

-- the line's command was executed, which led from session s to t, and a first part of what it prints, which may be none
-- or all of it, was written: `before` and `after` are what `out` had taken before and after
pub record IsPartlyWritten (s : Debugged) (line : List ℕ) (t : Debugged) (before after : Option (List ℕ)) : Type 0 where
  pub command : Command
  pub text : List ℕ
  pub read : command_of line ≡ Some command
  pub does : Does s command text t
  pub written : AppendsPart before after text
