-- What `dm` prints on standard error: the line about a stop, or that of a fault.
use Rattle.std.specs.Prelude.{ℕ, ◌≡◌, ◌++◌, Bool, true, false, List, [], ◌∷◌, Option, Some, None, Result, Ok, Err, codes}
use Rattle.std.specs.Io.KnownBytes.{Appends}
use Rattle.dm_console.specs.writers.Out.{AppendsPart, HasFailed}
use Rattle.dm_cli.specs.declared.fault.Fault.{Fault}
use Rattle.dm_cli.specs.Faults.{fault_line}
use Rattle.dm_services.specs.declared.state.stop.Stop.{Stop}
use Rattle.dm_services.specs.declared.state.stop.Stop.TheVariants.{Steps, Exited, Halted, Unlisted, InputEnded, Destroyed, Memory}

-- the line about a stop, as `dm run` prints it; no text for an exit
abbrev pub stop_text : Stop → List ℕ
stop_text Steps = codes "stopped: steps" ++ 10 ∷ []
stop_text (Exited code) = []
stop_text Halted = codes "stopped: halted" ++ 10 ∷ []
stop_text Unlisted = codes "stopped: unlisted" ++ 10 ∷ []
stop_text InputEnded = codes "stopped: input ended" ++ 10 ∷ []
stop_text Destroyed = codes "stopped: destroyed" ++ 10 ∷ []
stop_text Memory = codes "stopped: memory" ++ 10 ∷ []

-- standard error: its bytes, where they are known, and how many of its writes and flushes have failed
pub record Stream : Type 0 where
  pub bytes : Option (List ℕ)
  pub failures : ℕ

-- a text is written to a stream: all of it, and no write or flush failed; or a first part, and then one failed
pub data Prints (text : List ℕ) (before after : Stream) : Type 0 where
  all : Appends before.bytes after.bytes text → after.failures ≡ before.failures → Prints text before after
  part : AppendsPart before.bytes after.bytes text → HasFailed before.failures after.failures → Prints text before after

-- texts that were written to a stream one after the other, and together are `text`: all of them, and no write or flush
-- failed (false); or a first part, and then a write or a flush failed (true)
abbrev pub HasPrinted : Bool → List ℕ → Stream → Stream → Type 0
HasPrinted false text before after = Appends before.bytes after.bytes text × (after.failures ≡ before.failures)
HasPrinted true text before after = AppendsPart before.bytes after.bytes text × HasFailed before.failures after.failures

-- a fault is printed, if there is one; otherwise the stream stays as it was
pub data Reports (before after : Stream) : Option Fault → Type 0 where
  silent : after ≡ before → Reports before after None
  faulty : (fault : Fault) → Prints (fault_line fault) before after → Reports before after (Some fault)

-- what `dm run` prints on standard error: the line about its stop (no text for an exit), or that of its fault
abbrev pub outcome_text : Result Stop Fault → List ℕ
outcome_text (Ok stop) = stop_text stop
outcome_text (Err fault) = fault_line fault
