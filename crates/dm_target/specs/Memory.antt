-- Memory by linear addresses.
-- Source: Intel 8086 Family User's Manual, "Memory" (segment * 16 + offset); GDB manual, "Packets" (`m`, `M`).
use Rattle.std.specs.Prelude.{ℕ, ◌+◌, ◌-◌, ◌*◌, ◌/◌, ◌==◌, Bool, true, false, min, nat_lt, if◌then◌else◌, List, [], ◌∷◌}
use Rattle.dm_space.specs.Memory.{Memory, linear, peek}
use Rattle.dm_views.specs.Digits.{in_turn}

-- the linear address of segment:offset, as the machine reaches it: without bit 20 while A20 is off
abbrev pub linear_of : Memory → ℕ → ℕ → ℕ
linear_of m segment offset = linear m.a20 segment offset

-- the segment through which a byte is read: the highest whose first byte is not above it, at most FFFFh
abbrev pub segment_below : ℕ → ℕ
segment_below address = min (address / 16) 0xFFFF

-- the byte at a linear address up to FFFF:FFFF, as a program reads it
abbrev pub byte_at : Memory → ℕ → ℕ
byte_at m address = peek m (linear m.a20 (segment_below address) (address - segment_below address * 16))

-- the list of the k-th byte from an address up
abbrev pub one_byte : Memory → ℕ → ℕ → List ℕ
one_byte m address k = byte_at m (address + k) ∷ []

-- how many of `count` bytes from an address up can be read at once: those up to FFFF:FFFF, at most 2000h
abbrev pub readable : ℕ → ℕ → ℕ
readable address count = if nat_lt 0x10FFEF address then 0 else min (min count 0x2000) (0x10FFF0 - address)

-- the bytes from an address up, this many
abbrev pub bytes_from : Memory → ℕ → ℕ → List ℕ
bytes_from m address count = in_turn (one_byte m address) count

-- whether memory has these bytes from an address up
abbrev pub reads_as : Memory → ℕ → List ℕ → Bool
reads_as m address [] = true
reads_as m address (b ∷ bs) = if byte_at m address == b then reads_as m (address + 1) bs else false
