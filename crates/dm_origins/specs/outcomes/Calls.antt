-- Which calls may change the arena, and the findings about calls: calls that failed, and division errors.
-- Source: MS-DOS Programmer's Reference, "System Calls" (CF and AX); LIM EMS 4.0, section 3 (AH is the status); XMS 3.0
-- (AX, and BL the error).
use Rattle.std.specs.Prelude.{ℕ, ◌==◌, ◌&&◌, ◌||◌, not, Bool, true, false, if◌then◌else◌, List, [], ◌∷◌, Option, Some, None}
use Rattle.dm_ins.specs.declared.operand.ByteRegister.TheVariants.{Ah, Al, Bl}
use Rattle.dm_cpu.specs.declared.cpu.Cpu.{Cpu}
use Rattle.dm_cpu.specs.Cpu.{byte_of}
use Rattle.dm_services.specs.declared.functions.Function.{Function}
use Rattle.dm_services.specs.declared.functions.Function.TheVariants.{Allocate, Free, Resize, AllocationStrategy, Terminate as EndProgram, Exit, Keep, LoadProgram, Unknown}
use Rattle.dm_services.specs.Functions.{function_of}
use Rattle.dm_drivers.specs.declared.expanded.functions.Function.{Function as ExpandedFunction}
use Rattle.dm_drivers.specs.declared.expanded.functions.Function.TheVariants as expanded
use Rattle.dm_drivers.specs.expanded.Functions.{function_of as expanded_function}
use Rattle.dm_drivers.specs.declared.extended.functions.Function.{Function as ExtendedFunction}
use Rattle.dm_drivers.specs.declared.extended.functions.Function.TheVariants as extended
use Rattle.dm_drivers.specs.extended.Functions.{function_of as extended_function}
use Rattle.dm_ems.specs.declared.status.Status.TheVariants as handle_status
use Rattle.dm_ems.specs.Status.{code_of as status_code}
use Rattle.dm_xms.specs.declared.status.Status.TheVariants as block_status
use Rattle.dm_xms.specs.Status.{code_of as error_code}
use Rattle.dm_xms.specs.declared.uppers.UpperRefusal.TheVariants as upper_refusal
use Rattle.dm_xms.specs.Uppers.{code_of as refusal_code}
use Rattle.dm_findings.specs.declared.calls.Call.{Call}
use Rattle.dm_findings.specs.declared.calls.Call.TheVariants.{DivideError, Terminate, Dos, ExpandedMemory, Multiplex, ExtendedMemory, Interrupt}
use Rattle.dm_findings.specs.declared.finding.Finding.{Finding}
use Rattle.dm_findings.specs.declared.finding.Finding.TheVariants.{Refused, NotAllocated, Short, DivisionError, NotServed}

-- ---- calls that write headers

-- whether a function of INT 21h allocates a block: 48h
abbrev pub allocates : Function → Bool
allocates Allocate = true
allocates _ = false

-- whether it frees a block: 49h
abbrev pub frees : Function → Bool
frees Free = true
frees _ = false

-- whether it resizes a block: 4Ah
abbrev pub resizes : Function → Bool
resizes Resize = true
resizes _ = false

-- whether it sets how blocks are chosen, or links the lists: 58h
abbrev pub arranges_lists : Function → Bool
arranges_lists AllocationStrategy = true
arranges_lists _ = false

-- whether it is one of the arena
abbrev pub is_arena_function : Function → Bool
is_arena_function f = allocates f || frees f || resizes f || arranges_lists f

-- whether a function of INT 21h ends a process, which does not stay: 00h or 4Ch
abbrev pub ends_for_good : Function → Bool
ends_for_good EndProgram = true
ends_for_good Exit = true
ends_for_good _ = false

-- whether it ends a process, which stays resident: 31h
abbrev pub stays_resident : Function → Bool
stays_resident Keep = true
stays_resident _ = false

-- whether it ends a process
abbrev pub is_ending : Function → Bool
is_ending f = ends_for_good f || stays_resident f

-- whether a call of a function of INT 21h with these registers may start a process: 4Bh, but not with AL = 3, which
-- loads an overlay (any other AL but 0 is an error)
abbrev pub is_starting : Cpu → Function → Bool
is_starting c LoadProgram = not (byte_of c Al == 3)
is_starting c _ = false

-- whether a call is one that may write headers: a call of the arena, or a start or an end of a process
abbrev pub arranges : Cpu → Option Call → Bool
arranges c None = false
arranges c (Some DivideError) = true
arranges c (Some Terminate) = true
arranges c (Some (Dos number)) = is_arena_function (function_of number) || is_ending (function_of number) ||
    is_starting c (function_of number)
arranges c (Some (ExpandedMemory number)) = false
arranges c (Some Multiplex) = false
arranges c (Some (ExtendedMemory number)) = false
arranges c (Some (Interrupt number)) = false

-- whether a call is function 31h of INT 21h, by which a process ends and stays resident
abbrev pub call_stays_resident : Call → Bool
call_stays_resident DivideError = false
call_stays_resident Terminate = false
call_stays_resident (Dos number) = stays_resident (function_of number)
call_stays_resident (ExpandedMemory number) = false
call_stays_resident Multiplex = false
call_stays_resident (ExtendedMemory number) = false
call_stays_resident (Interrupt number) = false

-- ---- refusals, by the registers before and after a call

-- the finding that a call failed with this code: an error if the call frees or resizes what is not allocated (`stray`),
-- otherwise a note
abbrev pub refusal : Bool → ℕ → Finding
refusal stray code = if stray then NotAllocated code else Refused code

-- whether the code of a failed function of INT 21h says that ES is no block's segment, for a block to be freed (49h) or
-- resized (4Ah)
abbrev pub is_stray_block : Function → ℕ → Bool
is_stray_block f code = (frees f || resizes f) && (code == 0x09)

-- whether the status of a failed function of INT 67h says that the handle whose pages are to be freed is not in use
abbrev pub is_stray_handle : ExpandedFunction → ℕ → Bool
is_stray_handle expanded.Deallocate status = status == status_code handle_status.UnknownHandle
is_stray_handle _ status = false

-- whether the code of a failed function of the extended memory driver says that there is no block to be freed: no
-- handle with this number, or no upper memory block at this segment
abbrev pub is_stray_extended : ExtendedFunction → ℕ → Bool
is_stray_extended extended.Deallocate code = code == error_code block_status.UnknownHandle
is_stray_extended extended.ReleaseUpper code = code == refusal_code upper_refusal.Unknown
is_stray_extended _ code = false

-- the finding that a call of INT 21h failed; none if CF is clear in d. AX in d is the error code, below 256. For code 8
-- of 48h and 4Ah, BX in c is how many paragraphs were asked for, and BX in d how many are available
abbrev pub refused_by_dos : Cpu → Cpu → Function → List Finding
refused_by_dos c d f =
    if not d.flags.carry then [] else
    if (byte_of d Al == 8) && (allocates f || resizes f) then Short c.bx d.bx ∷ []
    else refusal (is_stray_block f (byte_of d Al)) (byte_of d Al) ∷ []

-- the finding that a call of INT 67h failed with this status; none for 00h, success, and for 92h, which says that a
-- move was done and its regions overlap
abbrev pub refused_by_status : ExpandedFunction → ℕ → List Finding
refused_by_status f status = if (status == 0) || (status == 0x92) then [] else refusal (is_stray_handle f status) status
    ∷ []

-- the finding that a call of the extended memory driver failed: AX is 0, and BL, the error code, is not; else none.
-- (To ask for A20 returns 0 in both if A20 is off)
abbrev pub refused_by_error : ExtendedFunction → Cpu → List Finding
refused_by_error f d = if (d.ax == 0) && not (byte_of d Bl == 0) then
    refusal (is_stray_extended f (byte_of d Bl)) (byte_of d Bl) ∷ [] else []

-- whether a call of a function of INT 21h is looked at for failure: 48h, 49h, 4Ah, 4Bh and 58h, and each that is not
-- served. (Carry from a function of the console is left to the program)
abbrev pub may_be_refused : Function → Bool
may_be_refused LoadProgram = true
may_be_refused Unknown = true
may_be_refused f = is_arena_function f

-- what is found of a call, by the registers before (c) and after it (d): that it failed, that it is interrupt 0, by
-- which a division error ends the process, or an interrupt that is not served; none otherwise
abbrev pub call_findings : Cpu → Cpu → Option Call → List Finding
call_findings c d None = []
call_findings c d (Some DivideError) = DivisionError ∷ []
call_findings c d (Some Terminate) = []
call_findings c d (Some (Dos number)) = if may_be_refused (function_of number) then
    refused_by_dos c d (function_of number) else []
call_findings c d (Some (ExpandedMemory number)) = refused_by_status (expanded_function number) (byte_of d Ah)
call_findings c d (Some Multiplex) = []
call_findings c d (Some (ExtendedMemory number)) = refused_by_error (extended_function number) d
call_findings c d (Some (Interrupt number)) = NotServed ∷ []
