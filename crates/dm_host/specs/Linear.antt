-- A host's guest memory by linear addresses (Intel 8086 Family User's Manual, "Memory": segment * 16 + offset).
use Rattle.std.specs.Prelude.{ℕ, ◌+◌, ◌%◌, Bool, nat_lt, if◌then◌else◌, List, [], ◌∷◌}
use Rattle.dm_space.specs.Memory.{Memory, peek, poke}
use Rattle.dm_space.specs.Copies.{values}

-- what a program that forms this linear address reaches: while A20 is off, its bit 20 is
abbrev pub reached : Bool → ℕ → ℕ
reached a20 address = if a20 then address else address % 0x100000

-- the byte at a linear address, as a program reads it; FFh past FFFF:FFFF, which no program reaches
abbrev pub byte_at_linear : Memory → ℕ → ℕ
byte_at_linear m address = if nat_lt address 0x10FFF0 then peek m (reached m.a20 address) else 0xFF

-- the n bytes from a linear address up
abbrev pub bytes_at_linear : Memory → ℕ → ℕ → List ℕ
bytes_at_linear m address n = values (byte_at_linear m) address n

-- the memory after a program has written a byte to a linear address; past FFFF:FFFF, which no program reaches, it stays
abbrev pub with_byte_at_linear : Memory → ℕ → ℕ → Memory
with_byte_at_linear m address byte = if nat_lt address 0x10FFF0 then poke m (reached m.a20 address) byte else m

-- the memory after the bytes have been written one by one, from a linear address up
abbrev pub with_bytes_at_linear : Memory → ℕ → List ℕ → Memory
with_bytes_at_linear m address [] = m
with_bytes_at_linear m address (byte ∷ bytes) = with_bytes_at_linear (with_byte_at_linear m address byte)
    (address + 1) bytes
