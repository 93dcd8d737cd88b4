-- The exit statuses of `dm`.
use Rattle.std.specs.Prelude.{ℕ, Result, Ok, Err, Option, Some, None}
use Rattle.dm_services.specs.declared.state.stop.Stop.{Stop}
use Rattle.dm_services.specs.declared.state.stop.Stop.TheVariants.{Exited}

-- the exit status of a run that ended with a stop: the program's exit code, or 125 for any stop but `Exited`
abbrev pub stop_status : Stop → ℕ
stop_status (Exited code) = code
stop_status _ = 125

-- the exit status of `dm run`: that of its stop, or 126 at a fault
abbrev pub exit_status_of : {E : Type 0} → Result Stop E → ℕ
exit_status_of (Ok stop) = stop_status stop
exit_status_of (Err _) = 126

-- the exit status of `dm debug`, `dm gdb`, `dm asm` and `dm disasm`: 0, or 126 at a fault
abbrev pub status_after : {E : Type 0} → Option E → ℕ
status_after None = 0
status_after (Some _) = 126
