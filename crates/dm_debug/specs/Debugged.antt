-- A debugging session as contracts see it.
use Rattle.std.specs.Prelude.{List}
use Rattle.dm_services.specs.state.State.{State}
use Rattle.dm_machine.specs.declared.until.Breakpoint.{Breakpoint}

-- a debugging session: the state of its machine, and its breakpoints
pub record Debugged : Type 0 where
  pub machine : State
  -- in the order of setting, no two at one segment and offset
  pub points : List Breakpoint
