-- The names of calls in the report of `dm check`: MS-DOS Programmer's Reference, "System Calls"; LIM EMS 4.0, section
-- 3; XMS 3.0. Numbers that are not served have none.
use Rattle.std.specs.Prelude.{ℕ, List, [], ◌++◌, codes}
use Rattle.dm_services.specs.declared.functions.Function.{Function}
use Rattle.dm_services.specs.declared.functions.Function.TheVariants.{Terminate as EndProgram, EchoCharacter, WriteCharacter, DirectCharacter, DirectInput, ReadCharacter, WriteText, ReadLine, CheckInput, FlushAndRead, SetVector, Version, Keep, GetVector, ReadHandle, WriteHandle, Allocate, Free, Resize, LoadProgram, Exit, ExitCode, Process, AllocationStrategy, Unknown}
use Rattle.dm_services.specs.Functions.{function_of}
use Rattle.dm_drivers.specs.declared.expanded.functions.Function.{Function as ExpandedFunction}
use Rattle.dm_drivers.specs.declared.expanded.functions.Function.TheVariants as expanded
use Rattle.dm_drivers.specs.expanded.Functions.{function_of as expanded_function}
use Rattle.dm_drivers.specs.declared.extended.functions.Function.{Function as ExtendedFunction}
use Rattle.dm_drivers.specs.declared.extended.functions.Function.TheVariants as extended
use Rattle.dm_drivers.specs.extended.Functions.{function_of as extended_function}
use Rattle.dm_views.specs.Digits.{two_digits}
use Rattle.dm_findings.specs.declared.calls.Call.{Call}
use Rattle.dm_findings.specs.declared.calls.Call.TheVariants.{DivideError, Terminate, Dos, ExpandedMemory, Multiplex, ExtendedMemory, Interrupt}

-- the name of a function of INT 21h in parentheses, after a space; empty for `Unknown`
abbrev pub dos_name : Function → List ℕ
dos_name EndProgram = codes " (Terminate Program)"
dos_name EchoCharacter = codes " (Read Keyboard with Echo)"
dos_name WriteCharacter = codes " (Display Character)"
dos_name DirectCharacter = codes " (Direct Console I/O)"
dos_name DirectInput = codes " (Direct Console Input)"
dos_name ReadCharacter = codes " (Read Keyboard Without Echo)"
dos_name WriteText = codes " (Display String)"
dos_name ReadLine = codes " (Buffered Keyboard Input)"
dos_name CheckInput = codes " (Check Keyboard Status)"
dos_name FlushAndRead = codes " (Flush Buffer, Read Keyboard)"
dos_name SetVector = codes " (Set Interrupt Vector)"
dos_name Version = codes " (Get Version Number)"
dos_name Keep = codes " (Keep Program)"
dos_name GetVector = codes " (Get Interrupt Vector)"
dos_name ReadHandle = codes " (Read File or Device)"
dos_name WriteHandle = codes " (Write File or Device)"
dos_name Allocate = codes " (Allocate Memory)"
dos_name Free = codes " (Free Allocated Memory)"
dos_name Resize = codes " (Set Memory Block Size)"
dos_name LoadProgram = codes " (Load Program)"
dos_name Exit = codes " (End Program)"
dos_name ExitCode = codes " (Get Child-Program Return Value)"
dos_name Process = codes " (Get Program Segment Prefix Address)"
dos_name AllocationStrategy = codes " (Allocation Strategy, Upper-Memory Link)"
dos_name Unknown = []

-- the name of a function of INT 67h in parentheses, after a space; empty for `Unknown`
abbrev pub expanded_name : ExpandedFunction → List ℕ
expanded_name expanded.Status = codes " (Get Status)"
expanded_name expanded.Frame = codes " (Get Page Frame Address)"
expanded_name expanded.PageCounts = codes " (Get Unallocated Page Count)"
expanded_name expanded.Allocate = codes " (Allocate Pages)"
expanded_name expanded.MapPage = codes " (Map/Unmap Handle Page)"
expanded_name expanded.Deallocate = codes " (Deallocate Pages)"
expanded_name expanded.Version = codes " (Get Version)"
expanded_name expanded.SaveMap = codes " (Save Page Map)"
expanded_name expanded.RestoreMap = codes " (Restore Page Map)"
expanded_name expanded.CountHandles = codes " (Get Handle Count)"
expanded_name expanded.CountPages = codes " (Get Handle Pages)"
expanded_name expanded.ListPages = codes " (Get All Handle Pages)"
expanded_name expanded.WholeMap = codes " (Get/Set Page Map)"
expanded_name expanded.MapMany = codes " (Map/Unmap Multiple Handle Pages)"
expanded_name expanded.Reallocate = codes " (Reallocate Pages)"
expanded_name expanded.HandleName = codes " (Get/Set Handle Name)"
expanded_name expanded.Directory = codes " (Get Handle Directory)"
expanded_name expanded.Regions = codes " (Move/Exchange Memory Region)"
expanded_name expanded.Mappable = codes " (Get Mappable Physical Address Array)"
expanded_name expanded.Unknown = []

-- the name of a function of the extended memory driver in parentheses, after a space; empty for `Unknown`
abbrev pub extended_name : ExtendedFunction → List ℕ
extended_name extended.Version = codes " (Get XMS Version Number)"
extended_name extended.TakeArea = codes " (Request High Memory Area)"
extended_name extended.ReleaseArea = codes " (Release High Memory Area)"
extended_name extended.EnableGlobally = codes " (Global Enable A20)"
extended_name extended.DisableGlobally = codes " (Global Disable A20)"
extended_name extended.EnableLocally = codes " (Local Enable A20)"
extended_name extended.DisableLocally = codes " (Local Disable A20)"
extended_name extended.Line = codes " (Query A20)"
extended_name extended.FreeSize = codes " (Query Free Extended Memory)"
extended_name extended.Allocate = codes " (Allocate Extended Memory Block)"
extended_name extended.Deallocate = codes " (Free Extended Memory Block)"
extended_name extended.MoveMemory = codes " (Move Extended Memory Block)"
extended_name extended.Lock = codes " (Lock Extended Memory Block)"
extended_name extended.Unlock = codes " (Unlock Extended Memory Block)"
extended_name extended.Information = codes " (Get Handle Information)"
extended_name extended.Reallocate = codes " (Reallocate Extended Memory Block)"
extended_name extended.RequestUpper = codes " (Request Upper Memory Block)"
extended_name extended.ReleaseUpper = codes " (Release Upper Memory Block)"
extended_name extended.ResizeUpper = codes " (Reallocate Upper Memory Block)"
extended_name extended.Unknown = []

-- the text of a call: its interrupt, or `XMS` for the extended memory driver, and the number and name of the function
-- if it has one
abbrev pub call_text : Call → List ℕ
call_text DivideError = codes "interrupt 0"
call_text Terminate = codes "INT 20h"
call_text (Dos number) = codes "INT 21h function " ++ two_digits number ++ codes "h" ++ dos_name (function_of number)
call_text (ExpandedMemory number) = codes "INT 67h function " ++ two_digits number ++ codes "h"
    ++ expanded_name (expanded_function number)
call_text Multiplex = codes "INT 2Fh"
call_text (ExtendedMemory number) = codes "XMS function " ++ two_digits number ++ codes "h"
    ++ extended_name (extended_function number)
call_text (Interrupt number) = codes "INT " ++ two_digits number ++ codes "h"
