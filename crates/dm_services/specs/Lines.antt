-- INT 21h function 0Ah, a line of the console: MS-DOS Programmer's Reference, "Buffered Keyboard Input". Input is a
-- redirected byte stream: nothing is edited, and (this machine's own) nothing is echoed.
use Rattle.std.specs.Prelude.{ℕ, ◌+◌, ◌-◌, ◌==◌, not, if◌then◌else◌, List, [], ◌∷◌, ◌++◌, take, drop, length, Option, Some, None}
use Rattle.std.specs.List.{filter, position}
use Rattle.dm_space.specs.Memory.{Memory, linear, peek}
use Rattle.dm_cpu.specs.Guest.{up}
use Rattle.dm_services.specs.declared.state.stop.Stop.TheVariants.{InputEnded}
use Rattle.dm_services.specs.state.State.{State, Answer, go, stop_at, interrupt_returned}
use Rattle.dm_space.specs.Buffers.{with_bytes}

-- how many bytes of the input stand before the first 0Dh; None where there is no 0Dh
unfoldable pub line_length : List ℕ → Option ℕ
line_length input = position (λ byte. byte == 0x0D) input

-- what a buffer of size m keeps of a line without its 0Dh: each 0Ah is dropped, and of the rest the first m - 1 bytes
-- are kept (none if m is 0)
unfoldable pub kept_bytes : ℕ → List ℕ → List ℕ
kept_bytes m line = take (m - 1) (filter (λ byte. not (byte == 0x0A)) line)

-- the memory with the bytes in the buffer at segment:offset: they and a 0Dh stand from its byte 2 on, and their count
-- (without the 0Dh) in its byte 1; byte 0 stays
abbrev pub filled : Memory → ℕ → ℕ → List ℕ → Memory
filled m segment offset bytes =
    with_bytes (with_bytes m segment (up offset 2) (bytes ++ 0x0D ∷ [])) segment (up offset 1) (length bytes ∷ [])

-- 0Ah with a buffer of size m above 0, by the length of the next line: the line and its 0Dh are taken from the input,
-- and what a buffer of size m keeps of it is written to the buffer at DS:DX; where there is none (None), the machine
-- stops and nothing changes
abbrev pub line_read : State → ℕ → Option ℕ → Answer
line_read s m None = stop_at InputEnded s
line_read s m (Some line) = go (interrupt_returned (record s {
  memory = filled s.memory s.cpu.ds s.cpu.dx (kept_bytes m (take line s.console.input));
  console = record s.console { input = drop (line + 1) s.console.input };
}))

-- 0Ah with a buffer of size m: for size 0, the call returns, memory stays and no input is taken
abbrev pub line_into : State → ℕ → Answer
line_into s m = if m == 0 then go (interrupt_returned s) else line_read s m (line_length s.console.input)

-- 0Ah: takes a line of the input and writes it to the buffer at DS:DX, whose byte 0 is its size, and returns; AX stays.
-- With a size above 0 and no 0Dh left in the input, the machine stops and nothing changes
unfoldable pub read_line : State → Answer
read_line s = line_into s (peek s.memory (linear s.memory.a20 s.cpu.ds s.cpu.dx))
