-- The answer of a debugger command, as it is written to memory.
use Rattle.dm_debug.specs.declared.refusal.CommandRefusal as session
use Rattle.dm_debug.specs.declared.refusal.CommandRefusal.TheVariants as why
use Rattle.dm_host.specs.declared.refusal.Refusal.{Refusal}
use Rattle.dm_host.specs.declared.refusal.Refusal.TheVariants.{Syntax, Full, Memory}

-- why a session refused a line, as a host returns it; a failed write is a failed allocation
abbrev pub refusal_of : session.CommandRefusal → Refusal
refusal_of why.Syntax = Syntax
refusal_of why.Full = Full
refusal_of why.Memory = Memory
refusal_of why.Write = Memory
