-- The text that INT 21h function 09h writes: MS-DOS Programmer's Reference, "Display String".
use Rattle.std.specs.Prelude.{ℕ, ◌-◌, ◌++◌, ◌==◌, not, max, length, List, take_while}
use Rattle.dm_space.specs.Memory.{Memory}
use Rattle.dm_console.specs.Streams.{Streams}
use Rattle.dm_proc.specs.Writes.{bytes_from}
use Rattle.dm_services.specs.state.State.{State, Answer, go, interrupt_returned}

-- the bytes from segment:offset on, up to the first `$` (not included), and at most n of them; offsets wrap
unfoldable pub text_within : Memory → ℕ → ℕ → ℕ → List ℕ
text_within m segment offset n = take_while (λ b. not (b == 0x24)) (bytes_from m segment offset n)

-- the bytes from segment:offset on, up to the first `$` (not included), and at most the 65,536 bytes of a segment
abbrev pub text_at : Memory → ℕ → ℕ → List ℕ
text_at m segment offset = text_within m segment offset 65536

-- the console with the text appended to the output, as 01h, 02h, 06h, 09h and 40h do it. The room, first raised to the
-- text's length if it is smaller, decreases by that length; the input stays
abbrev pub written : Streams → List ℕ → Streams
written c text = record c { output = c.output ++ text; room = max c.room (length text) - length text }

-- 09h: the text at DS:DX, up to the first `$` (not included), is written to the console, and the call returns; AX and
-- memory stay
unfoldable pub print : State → Answer
print s = go (interrupt_returned (record s { console = written s.console (text_at s.memory s.cpu.ds s.cpu.dx) }))
