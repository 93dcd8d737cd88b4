-- What a command shows. Private contracts and proofs alone name this.
use Rattle.std.specs.Prelude.{◌≡◌, ℕ, true, List, Some}
use Rattle.dm_requests.specs.declared.commands.command.Command.{Command}
use Rattle.dm_requests.specs.commands.Commands.{command_of}
use Rattle.dm_debug.specs.Sessions.{Displays}
use Rattle.dm_gdb.specs.Monitor.{is_shown}
use Rattle.dm_debug.specs.Debugged.{Debugged}

-- the line is a command that shows this text of a session
pub record ShowsLine (s : Debugged) (line text : List ℕ) : Type 0 where
  pub command : Command
  pub read : command_of line ≡ Some command
  pub shown : is_shown command ≡ true
  pub displays : Displays s command text
