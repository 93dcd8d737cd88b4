-- What `monitor check` finds ahead of a state. Private contracts and proofs alone name this.
use Rattle.std.specs.Prelude.{◌≢◌, ◌≤◌, ℕ, List}
use Rattle.dm_services.specs.declared.state.stop.Stop.{Stop}
use Rattle.dm_services.specs.declared.state.stop.Stop.TheVariants.{Memory as NoMemory}
use Rattle.dm_services.specs.state.State.{State}
use Rattle.dm_machine.specs.Run.{IsRun}
use Rattle.dm_gdb.specs.declared.replies.Reply.TheVariants as reply
use Rattle.dm_gdb.specs.Checking.{ChecksFrom, most_checked}

-- a run of at most so many steps from s leads to the state that `monitor check` leads to, with this text
pub record LeadsAhead (s : State) (steps : ℕ) (text : List ℕ) : Type 0 where
  pub to : State
  pub why : Stop
  pub few : steps ≤ most_checked
  pub run : IsRun s steps why to
  pub able : why ≢ NoMemory
  pub checks : ChecksFrom s (reply.Bytes text) to
