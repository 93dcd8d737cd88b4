-- INT 21h, single bytes of the console: MS-DOS Programmer's Reference, "Read Keyboard and Echo" (01h), "Display
-- Character" (02h), "Direct Console I/O" (06h), "Direct Console Input" (07h), "Read Keyboard" (08h), "Check Keyboard
-- Status" (0Bh). Input and output are redirected byte streams: there is no Ctrl-C check. What 01h, 07h and 08h do if no
-- input is left is this machine's own: they stop it, and nothing changes. Any other call returns by popping IP, CS and
-- FLAGS, with the step counted; memory stays.
use Rattle.std.specs.Prelude.{ℕ, ◌==◌, Bool, true, false, if◌then◌else◌, List, [], ◌∷◌}
use Rattle.dm_cpu.specs.Cpu.{byte_of, with_byte}
use Rattle.dm_ins.specs.declared.operand.ByteRegister.TheVariants.{Al, Dl}
use Rattle.dm_services.specs.declared.state.stop.Stop.TheVariants.{InputEnded}
use Rattle.dm_services.specs.state.State.{State, Answer, go, stop_at, interrupt_returned}
use Rattle.dm_services.specs.Text.{written}

-- the state with the byte in AL; AH stays
abbrev pub with_al : State → ℕ → State
with_al s byte = record s { cpu = with_byte s.cpu Al byte }

-- the state with this console input left
abbrev pub with_input : State → List ℕ → State
with_input s rest = record s { console = record s.console { input = rest } }

-- the state with bytes written to the console: the output and the room are those of `written`
abbrev pub with_written : State → List ℕ → State
with_written s bytes = record s { console = written s.console bytes }

-- the state with ZF set or clear
abbrev pub with_zero : State → Bool → State
with_zero s b = record s { cpu = record s.cpu { flags = record s.cpu.flags { zero = b } } }

-- 07h, 08h, by the input that is left: AL is its first byte, which is taken; the machine stops where there is none
abbrev pub character_of : State → List ℕ → Answer
character_of s [] = stop_at InputEnded s
character_of s (byte ∷ rest) = go (interrupt_returned (with_al (with_input s rest) byte))

-- 07h, 08h: AL is the next byte of the input, which is taken; with no input left, the machine stops and nothing changes
unfoldable pub read_character : State → Answer
read_character s = character_of s s.console.input

-- 01h, by the input that is left: AL is its first byte, which is taken and written; the machine stops where there is
-- none
abbrev pub echo_of : State → List ℕ → Answer
echo_of s [] = stop_at InputEnded s
echo_of s (byte ∷ rest) = go (interrupt_returned (with_al (with_written (with_input s rest) (byte ∷ [])) byte))

-- 01h: AL is the next byte of the input, which is taken and written to the console; with no input left, the machine
-- stops and nothing changes
unfoldable pub echo_character : State → Answer
echo_character s = echo_of s s.console.input

-- 02h: the byte in DL is written to the console; AX stays
unfoldable pub write_character : State → Answer
write_character s = go (interrupt_returned (with_written s (byte_of s.cpu Dl ∷ [])))

-- 06h with DL = FFh, by the input that is left: AL is its first byte, which is taken, and ZF = 0; where there is none,
-- AL = 0 and ZF = 1
abbrev pub poll_of : State → List ℕ → Answer
poll_of s [] = go (with_zero (interrupt_returned (with_al s 0)) true)
poll_of s (byte ∷ rest) = go (with_zero (interrupt_returned (with_al (with_input s rest) byte)) false)

-- 06h with DL = FFh: AL is the next byte of the input, and ZF is 0; with no input left, AL is 0 and ZF is 1, and the
-- machine does not stop
unfoldable pub poll_character : State → Answer
poll_character s = poll_of s s.console.input

-- 06h: with DL = FFh, AL is the next byte of the input, which is taken, and ZF is 0, or with no input left AL is 0 and
-- ZF is 1; with any other DL, DL is written to the console and AX stays
unfoldable pub direct_character : State → Answer
direct_character s = if byte_of s.cpu Dl == 0xFF then poll_character s else write_character s

-- what 0Bh returns in AL, by the input that is left: FFh if there is some, else 0
abbrev pub input_status : List ℕ → ℕ
input_status [] = 0
input_status (byte ∷ rest) = 0xFF

-- 0Bh: AL is FFh if console input is left, else 0; no input is taken
unfoldable pub check_input : State → Answer
check_input s = go (interrupt_returned (with_al s (input_status s.console.input)))
