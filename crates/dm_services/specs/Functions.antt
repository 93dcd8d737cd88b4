-- The functions of INT 21h: MS-DOS Programmer's Reference, "System Calls". What a number that is not served returns is
-- this machine's own.
use Rattle.std.specs.Prelude.{◌≡◌, ℕ, ◌==◌, if◌then◌else◌, true}
use Rattle.dm_cpu.specs.Cpu.{byte_of}
use Rattle.dm_ins.specs.declared.operand.ByteRegister.TheVariants.{Al}
use Rattle.dm_services.specs.declared.functions.Function.{Function}
use Rattle.dm_services.specs.declared.functions.Function.TheVariants.{EchoCharacter, WriteCharacter, DirectCharacter, DirectInput, ReadCharacter, WriteText, ReadLine, CheckInput, FlushAndRead, SetVector, Version, Keep, GetVector, ReadHandle, WriteHandle, Allocate, Free, Resize, LoadProgram, Exit, ExitCode, Process, AllocationStrategy, Terminate, Unknown}
use Rattle.dm_services.specs.state.State.{State, Answer, go, interrupt_returned, with_carry}
use Rattle.dm_services.specs.Text.{print}
use Rattle.dm_services.specs.Characters.{with_al, echo_character, write_character, direct_character, read_character, check_input}
use Rattle.dm_services.specs.Lines.{read_line}
use Rattle.dm_services.specs.Handles.{read_handle, write_handle}
use Rattle.dm_services.specs.Vectors.{set_vector, get_vector}
use Rattle.dm_services.specs.System.{tell_version, tell_process}
use Rattle.dm_services.specs.Allocation.{Allocation, Freeing, Resizing}
use Rattle.dm_services.specs.Strategies as strategies
use Rattle.dm_services.specs.Strategies.{StrategyCalls}
use Rattle.dm_services.specs.Processes.{LoadingProgram, Terminating, StayingResident, tell_code}

-- the function of INT 21h with a number, which calls have in AH; `Unknown` for a number that is not served
abbrev pub function_of : ℕ → Function
function_of number =
    if number == 0x00 then Terminate else
    if number == 0x01 then EchoCharacter else
    if number == 0x02 then WriteCharacter else
    if number == 0x06 then DirectCharacter else
    if number == 0x07 then DirectInput else
    if number == 0x08 then ReadCharacter else
    if number == 0x09 then WriteText else
    if number == 0x0A then ReadLine else
    if number == 0x0B then CheckInput else
    if number == 0x0C then FlushAndRead else
    if number == 0x25 then SetVector else
    if number == 0x30 then Version else
    if number == 0x31 then Keep else
    if number == 0x35 then GetVector else
    if number == 0x3F then ReadHandle else
    if number == 0x40 then WriteHandle else
    if number == 0x48 then Allocate else
    if number == 0x49 then Free else
    if number == 0x4A then Resize else
    if number == 0x4B then LoadProgram else
    if number == 0x4C then Exit else
    if number == 0x4D then ExitCode else
    if number == 0x51 then Process else
    if number == 0x58 then AllocationStrategy else
    if number == 0x62 then Process else Unknown

-- INT 21h with a number that is not served: AX = 1, CF = 1, and the call returns; memory stays
unfoldable pub no_function : State → Answer
no_function s = go (with_carry (interrupt_returned (record s { cpu = record s.cpu { ax = 1 } })) true)

-- 0Ch ("Flush Buffer, Read Keyboard"), by the function that AL names: performs it if it reads the console, and stops
-- the machine where that function does; else sets AL to 0, and the call returns
abbrev pub read_by : Function → State → Answer
read_by EchoCharacter s = echo_character s
read_by DirectCharacter s = direct_character s
read_by DirectInput s = read_character s
read_by ReadCharacter s = read_character s
read_by ReadLine s = read_line s
read_by _ s = go (interrupt_returned (with_al s 0))

-- 0Ch: performs the function that AL names, if it reads the console; else AL is 0. No input is dropped first: input is
-- a redirected byte stream, so there is nothing to flush
unfoldable pub flush_and_read : State → Answer
flush_and_read s = read_by (function_of (byte_of s.cpu Al)) s

-- x is a result (stop and state) that the function of INT 21h, called from the state s, may have
abbrev pub Calls : State → Function → Answer → Type 0
Calls s EchoCharacter x = x ≡ echo_character s
Calls s WriteCharacter x = x ≡ write_character s
Calls s DirectCharacter x = x ≡ direct_character s
Calls s DirectInput x = x ≡ read_character s
Calls s ReadCharacter x = x ≡ read_character s
Calls s WriteText x = x ≡ print s
Calls s ReadLine x = x ≡ read_line s
Calls s CheckInput x = x ≡ check_input s
Calls s FlushAndRead x = x ≡ flush_and_read s
Calls s SetVector x = x ≡ set_vector s
Calls s Version x = x ≡ tell_version s
Calls s GetVector x = x ≡ get_vector s
Calls s ReadHandle x = x ≡ read_handle s
Calls s WriteHandle x = x ≡ write_handle s
Calls s Allocate x = Allocation s x
Calls s Free x = Freeing s x
Calls s Resize x = Resizing s x
Calls s LoadProgram x = LoadingProgram s x
Calls s Exit x = Terminating s (byte_of s.cpu Al) x
Calls s Keep x = StayingResident s x
Calls s Terminate x = Terminating s 0 x
Calls s ExitCode x = x ≡ tell_code s
Calls s Process x = x ≡ tell_process s
Calls s AllocationStrategy x = StrategyCalls s (strategies.subfunction_of (byte_of s.cpu Al)) x
Calls s Unknown x = x ≡ no_function s
