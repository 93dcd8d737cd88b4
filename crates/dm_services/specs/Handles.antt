-- INT 21h, the handles of the console: MS-DOS Programmer's Reference, "Read File or Device" (3Fh), "Write File or
-- Device" (40h). Handles 0 to 2 are the console, each in both directions; that 3 and 4 are bad is this machine's own.
-- Where more console input may come, 3Fh does not return without a byte: it stops the machine, and nothing changes.
-- Each call else returns by popping IP, CS and FLAGS, then sets or clears CF, and counts the step.
use Rattle.std.specs.Prelude.{ℕ, nat_lt, ◌==◌, ◌&&◌, Bool, true, false, if◌then◌else◌, List, take, drop, length}
use Rattle.dm_proc.specs.Writes.{bytes_from}
use Rattle.dm_services.specs.declared.state.stop.Stop.TheVariants.{InputEnded}
use Rattle.dm_services.specs.state.State.{State, Answer, go, stop_at, interrupt_returned, with_carry}
use Rattle.dm_services.specs.Characters.{with_input, with_written}
use Rattle.dm_space.specs.Buffers.{with_bytes}

-- the state with this value in AX: the count of bytes, or an error code
abbrev pub with_ax : State → ℕ → State
with_ax s ax = record s { cpu = record s.cpu { ax = ax } }

-- 3Fh and 40h with a handle in BX above 2: error 6 in AX, CF = 1; memory and console stay
unfoldable pub bad_handle : State → Answer
bad_handle s = go (with_carry (interrupt_returned (with_ax s 6)) true)

-- the state with the bytes that 3Fh reads written to memory from DS:DX up; offsets wrap
abbrev pub with_read : State → List ℕ → State
with_read s bytes = record s { memory = with_bytes s.memory s.cpu.ds s.cpu.dx bytes }

-- 3Fh with a good handle: the bytes, which begin the console input, are taken from it and written from DS:DX up; AX is
-- their count, CF = 0
abbrev pub read_from_console : State → List ℕ → Answer
read_from_console s bytes =
    go (with_carry (interrupt_returned (with_ax (with_input (with_read s bytes) (drop (length bytes) s.console.input))
    (length bytes))) false)

-- whether 3Fh wants bytes that may still come: CX is above 0, no input is left, and more may come
abbrev pub waits : State → Bool
waits s = s.console.more && length s.console.input == 0 && nat_lt 0 s.cpu.cx

-- 3Fh with a good handle, by whether it waits: if so, the machine stops and nothing changes; else the next CX bytes are
-- read, or all if fewer are left
abbrev pub read_unless : Bool → State → Answer
read_unless wait s = if wait then stop_at InputEnded s else read_from_console s (take s.cpu.cx s.console.input)

-- 3Fh: with a handle in BX up to 2, takes the next CX bytes of the console input, or all if fewer are left, and writes
-- them from DS:DX up; AX is their count (0 with no input left), CF = 0. Where no input is left, more may come and CX is
-- above 0, the machine stops and nothing changes. With any other handle, error 6
unfoldable pub read_handle : State → Answer
read_handle s = if nat_lt s.cpu.bx 3 then read_unless (waits s) s else bad_handle s

-- 40h with a good handle: the CX bytes at DS:DX are written to the console; AX = CX, CF = 0
abbrev pub write_to_console : State → Answer
write_to_console s =
    go (with_carry (interrupt_returned (with_ax (with_written s (bytes_from s.memory s.cpu.ds s.cpu.dx s.cpu.cx))
    s.cpu.cx)) false)

-- 40h: with a handle in BX up to 2, writes the CX bytes at DS:DX to the console; AX = CX, CF = 0. Else error 6
unfoldable pub write_handle : State → Answer
write_handle s = if nat_lt s.cpu.bx 3 then write_to_console s else bad_handle s
