-- What `dm` does for the words of its command line, from their reading to its exit status.
use Rattle.std.specs.Prelude.{ℕ, ◌≡◌, ◌≢◌, Bool, List, [], Option, Some, IsSomeAnd, Result, Ok, Err, codes}
use Rattle.std.specs.Io.KnownBytes.{Appends, Keeps}
use denote.Ref.{Bor}
use Rattle.clap.specs.Words.{Text, fault_of, subcommand_of}
use Rattle.dm_options.specs.Arguments.{dm_app}
use Rattle.dm_options.specs.Options.{HasOptions}
use Rattle.dm_options.specs.declared.command_line.AsmOptions.{AsmOptions}
use Rattle.dm_options.specs.declared.command_line.CheckOptions.{CheckOptions}
use Rattle.dm_options.specs.declared.command_line.DebugOptions.{DebugOptions}
use Rattle.dm_options.specs.declared.command_line.MachineOptions.{MachineOptions}
use Rattle.dm_options.specs.declared.command_line.Options.{Options}
use Rattle.dm_options.specs.declared.command_line.Options.TheVariants as command
use Rattle.dm_console.specs.writers.Out.{AppendsPart, HasFailed}
use Rattle.dm_services.specs.declared.state.stop.Stop.{Stop}
use Rattle.dm_services.specs.state.State.{State}
use Rattle.dm_machine.specs.Run.{IsRun}
use Rattle.dm_cli.specs.declared.fault.Fault.{Fault}
use Rattle.dm_cli.specs.declared.fault.Fault.TheVariants.{OutOfMemory}
use Rattle.dm_cli.specs.Assembling.{AssemblesFile, Disassembles}
use Rattle.dm_cli.specs.Checking.{Checks, check_status}
use Rattle.dm_cli.specs.Debugging.{Debugs}
use Rattle.dm_cli.specs.Faults.{IsWriteFault, fault_line}
use Rattle.dm_cli.specs.Reads.{ReadsFiles, fault_if}
use Rattle.dm_cli.specs.Messages.{Stream, Prints, Reports, outcome_text}
use Rattle.dm_cli.specs.Serving.{DebugsByGdb}
use Rattle.dm_cli.specs.Starting.{IsStartedBy, IsStartFault}
use Rattle.dm_cli.specs.Statuses.{exit_status_of, status_after}

-- ---- the commands

-- `dm run`: the result is the stop, and the whole output of the run is appended to standard output; or it is a fault:
-- a write failed, after a first part of the output, or the run did not begin, and nothing was written
pub data Runs (files : List ℕ → Option (List ℕ)) (typed : Option (List ℕ)) (o : MachineOptions)
    (before after : Option (List ℕ)) (failed_before failed_after : ℕ) : Result Stop Fault → Type 0 where
  ran : (m t : State) (stop : Stop) → IsStartedBy files typed o m → IsRun m o.steps stop t →
      Appends before after t.console.output → failed_after ≡ failed_before
      → Runs files typed o before after failed_before failed_after (Ok stop)
  partly_written : (m t : State) (stop : Stop) (fault : Fault) → IsStartedBy files typed o m → IsRun m o.steps stop t →
      AppendsPart before after t.console.output
      → HasFailed failed_before failed_after → IsWriteFault fault →
      Runs files typed o before after failed_before failed_after (Err fault)
  not_started : (fault : Fault) → IsStartFault files typed (Some (codes "standard input")) o fault →
      Keeps before after → failed_after ≡ failed_before
      → Runs files typed o before after failed_before failed_after (Err fault)

-- ---- the program

-- what `dm` finds at its start: the bytes of files by their paths and of standard input, whether two paths lead to one
-- file, what standard output has taken, and which files were written, each where it is known; how many writes and
-- flushes of standard output, saves of files and reads of files have failed, and how often two paths were found to lead
-- to one file; and standard error
pub record Given : Type 0 where
  pub files : List ℕ → Option (List ℕ)
  pub same : List ℕ → List ℕ → Option Bool
  pub typed : Option (List ℕ)
  pub output : Option (List ℕ)
  pub failures : ℕ
  pub saved : Option (List (List ℕ × List ℕ))
  pub failed_saves : ℕ
  pub unread : ℕ
  pub found_same : ℕ
  -- standard error
  pub messages : Stream

-- what `dm` has produced at its end: what standard output has taken and which files were written, each where it is
-- known; how many writes and flushes of standard output, saves of files and reads of files have failed, and how often
-- two paths were found to lead to one file; standard error; and the exit status
pub record Produced : Type 0 where
  pub output : Option (List ℕ)
  pub failures : ℕ
  pub saved : Option (List (List ℕ × List ℕ))
  pub failed_saves : ℕ
  pub unread : ℕ
  pub found_same : ℕ
  pub messages : Stream
  pub status : ℕ

-- the words are a correct command line, which asks for the command and options o
pub record IsParsed (words : List Text) (o : Options) : Type 0 where
  pub right : fault_of dm_app words ≡ []
  pub says : IsSomeAnd (subcommand_of dm_app words) (λ given. HasOptions given o)

-- nothing is written to standard output, and no write or flush of it fails
abbrev pub IsSilent : Given → Produced → Type 0
IsSilent g l = Keeps g.output l.output × (l.failures ≡ g.failures)

-- no read of a file fails
abbrev pub ReadsAll : Given → Produced → Type 0
ReadsAll g l = l.unread ≡ g.unread

-- no file is written, no save of a file fails, and no two paths are found to lead to one file
abbrev pub SavesNothing : Given → Produced → Type 0
SavesNothing g l = (l.saved ≡ g.saved) × (l.failed_saves ≡ g.failed_saves) × (l.found_same ≡ g.found_same)

-- `dm` with these words leads from g to l: a wrong line, or a call for help, has status 2, and nothing is written but
-- `clap`'s text on standard error, of which nothing is said here; a correct line does what its command does; and an
-- allocation may fail while the words are read
pub data Does (g : Given) (words : List Text) (l : Produced) : Type 0 where
  usage : fault_of dm_app words ≢ [] → IsSilent g l → ReadsAll g l → SavesNothing g l → l.status ≡ 2 → Does g words l
  no_memory : Prints (fault_line OutOfMemory) g.messages l.messages → IsSilent g l → ReadsAll g l → SavesNothing g l →
      l.status ≡ 126 → Does g words l
  runs : (o : MachineOptions) (outcome : Result Stop Fault) → IsParsed words (command.Run o) →
      Runs g.files g.typed o g.output l.output g.failures l.failures outcome
      → Prints (outcome_text outcome) g.messages l.messages → SavesNothing g l →
      ReadsFiles g.unread l.unread (fault_if outcome) → l.status ≡ exit_status_of outcome → Does g words l
  checks : (o : CheckOptions) (outcome : Result ℕ Fault) (middle : Stream) → IsParsed words (command.Check o) →
      Checks g.files g.typed o g.output l.output g.failures l.failures g.messages middle outcome
      → Reports middle l.messages (fault_if outcome) → SavesNothing g l →
      ReadsFiles g.unread l.unread (fault_if outcome) → l.status ≡ check_status outcome → Does g words l
  debugs : (o : DebugOptions) (end : Option Fault) → IsParsed words (command.Debug o) →
      Debugs g.files g.typed o g.output l.output g.failures l.failures end
      → Reports g.messages l.messages end → SavesNothing g l → ReadsFiles g.unread l.unread end →
      l.status ≡ status_after end → Does g words l
  debugs_by_gdb : (o : DebugOptions) (end : Option Fault) → IsParsed words (command.Gdb o) →
      DebugsByGdb g.files g.typed o g.output l.output g.failures l.failures end
      → Reports g.messages l.messages end → SavesNothing g l → ReadsFiles g.unread l.unread end →
      l.status ≡ status_after end → Does g words l
  assembles : (o : AsmOptions) (end : Option Fault) → IsParsed words (command.Asm o) →
      AssemblesFile g.files g.same o g.saved l.saved g.failed_saves l.failed_saves g.found_same l.found_same end
      → Reports g.messages l.messages end → IsSilent g l → ReadsFiles g.unread l.unread end →
      l.status ≡ status_after end → Does g words l
  disassembles : (path : Bor (List ℕ)) (end : Option Fault) → IsParsed words (command.Disasm path) →
      Disassembles g.files path.now g.output l.output g.failures l.failures end
      → Reports g.messages l.messages end → SavesNothing g l → ReadsFiles g.unread l.unread end →
      l.status ≡ status_after end → Does g words l

-- the exit status is one that `dm` can have with these words, over files and streams of which nothing is known
pub record EndsWith (words : List Text) (status : ℕ) : Type 0 where
  pub given : Given
  pub produced : Produced
  pub does : Does given words produced
  pub is : status ≡ produced.status
