-- The services: MS-DOS Programmer's Reference, "System Calls"; Intel 8086 Family User's Manual,
-- section 2.6 (interrupt 0).
use Rattle.dm_cpu.specs.Cpu.{byte_of}
use Rattle.dm_ins.specs.declared.operand.ByteRegister.TheVariants.{Ah}
use Rattle.dm_space.specs.declared.entry_points.Service.{Service}
use Rattle.dm_space.specs.declared.entry_points.Service.TheVariants.{DivideError, Terminate, Dos}
use Rattle.dm_services.specs.state.State.{State, Answer}
use Rattle.dm_services.specs.Processes.{Terminating}
use Rattle.dm_services.specs.Functions.{function_of, Calls}

-- x is a result that the service, from the state s, may have: a divide error ends the present process with code FFh,
-- INT 20h ends it with code 0, and INT 21h performs the function in AH
abbrev pub Serves : State → Service → Answer → Type 0
Serves s DivideError x = Terminating s 0xFF x
Serves s Terminate x = Terminating s 0 x
Serves s Dos x = Calls s (function_of (byte_of s.cpu Ah)) x
