-- Processes that ran: where a name stands, and what a start and an end note.
-- Source: MS-DOS Programmer's Reference, "Program Segment Prefix" (16h: the parent's prefix; 2Ch: the environment) and
-- "Environment" (the program's name stands behind the variables, two zeros and a word).
use Rattle.std.specs.Prelude.{ℕ, zero, suc, ◌+◌, ◌==◌, not, is_some, Bool, if◌then◌else◌, List, [], ◌∷◌, ◌++◌, Some, None}
use Rattle.std.specs.List.{list_any, take_while}
use Rattle.dm_space.specs.Memory.{Memory, peek16}
use Rattle.dm_space.specs.EightBytes.{byte_after}
use Rattle.dm_findings.specs.declared.processes.process.Process.{Process}

-- ---- names

-- the first of n offsets from `at` on where the word is zero; the offset behind them if there is none
unfoldable pub first_zero_word : Memory → ℕ → ℕ → ℕ → ℕ
first_zero_word m segment at zero = at
first_zero_word m segment at (suc n) = if peek16 m segment at == 0 then at else first_zero_word m segment (at + 1) n

-- the offset of the two zeros behind the variables of the environment at a segment, at most 8000h
abbrev pub end_of_variables : Memory → ℕ → ℕ
end_of_variables m segment = first_zero_word m segment 0 0x8000

-- the first n bytes from segment:offset on
unfoldable pub bytes_after : Memory → ℕ → ℕ → ℕ → List ℕ
bytes_after m segment offset zero = []
bytes_after m segment offset (suc n) = bytes_after m segment offset n ++ byte_after m segment offset n ∷ []

-- the 64 bytes from segment:offset on
unfoldable pub name_at : Memory → ℕ → ℕ → List ℕ
name_at m segment offset = bytes_after m segment offset 64

-- the bytes of the name in the environment at a segment
abbrev pub name_in : Memory → ℕ → List ℕ
name_in m segment = name_at m segment (end_of_variables m segment + 4)

-- the bytes of the name in the environment of the process with this prefix
abbrev pub name_of : Memory → ℕ → List ℕ
name_of m prefix = name_in m (peek16 m prefix 0x2C)

-- the name of a process: those bytes up to the first zero
abbrev pub name_text : Process → List ℕ
name_text p = take_while (λ b. not (b == 0)) p.name_bytes

-- ---- starts and ends

-- the process with this prefix, which this step started, by memory after it
abbrev pub process_at : Memory → ℕ → ℕ → Process
process_at m prefix step = record {
  prefix = prefix;
  name_bytes = name_of m prefix;
  parent = peek16 m prefix 0x16;
  first = step;
  last = None;
}

-- whether a process has not ended
abbrev pub runs : Process → Bool
runs p = not (is_some p.last)

-- the processes after a step that ended the innermost of those that run, the last of them
abbrev pub with_end : ℕ → List Process → List Process
with_end step [] = []
with_end step (p ∷ ps) = if list_any runs ps then p ∷ with_end step ps else if runs p then record p { last = Some step }
    ∷ ps else p ∷ ps
