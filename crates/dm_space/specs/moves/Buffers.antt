-- Words in a program's buffer (INT 67h functions 4Eh, 50h and 57h; XMS 3.0, function 0Bh); offsets wrap in their
-- segment.
use Rattle.std.specs.Prelude.{ℕ, ◌+◌, ◌%◌}
use Rattle.dm_space.specs.Memory.{Memory, peek16}

-- the word k bytes after segment:offset
abbrev pub word_after : Memory → ℕ → ℕ → ℕ → ℕ
word_after m segment offset k = peek16 m segment ((offset + k) % 65536)
