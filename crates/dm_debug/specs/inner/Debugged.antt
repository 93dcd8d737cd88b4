-- The invariant of `Session`. Private contracts and proofs alone name this.
use Rattle.dm_services.specs.state.State.{HasProgram}
use Rattle.dm_debug.specs.Debugged.{Debugged}

-- a program is loaded in the session's machine
abbrev pub IsDebugged : Debugged → Type 0
IsDebugged s = HasProgram s.machine
