-- Setting registers by their numbers.
-- Source: GDB manual, "GDB Remote Serial Protocol", "Packets" (`P`); Intel 8086 Family User's Manual, "Memory"
-- (segment * 16 + offset). Which segment a linear address gets is this server's own choice.
use Rattle.std.specs.Prelude.{ℕ, ◌+◌, ◌-◌, ◌*◌, ◌%◌, ◌==◌, ◌||◌, ◌&&◌, Bool, not, nat_lt, nat_le, if◌then◌else◌, List, [], ◌∷◌, Option, Some, None}
use Rattle.dm_alu.specs.Flags.{flags_of}
use Rattle.dm_cpu.specs.declared.cpu.Cpu.{Cpu}
use Rattle.dm_space.specs.Memory.{Memory}
use Rattle.dm_target.specs.Memory.{linear_of, segment_below}

-- the number that the bytes of a register spell, the lowest first: four bytes for the registers 0 to 13, two for 32 and
-- 33. None for other bytes, and for other registers, which cannot be set
abbrev pub register_value : ℕ → List ℕ → Option ℕ
register_value n (a ∷ b ∷ c ∷ d ∷ []) = if nat_lt n 14 then Some (a + 256 * b + (65536 * c + 16777216 * d)) else None
register_value n (a ∷ b ∷ []) = if n == 32 || n == 33 then Some (a + 256 * b) else None
register_value n _ = None

-- whether a register can have this value: ESP and EIP are linear addresses, up to FFFF:FFFF
abbrev pub is_reached : ℕ → ℕ → Bool
is_reached n v = not ((n == 4 || n == 8) && nat_lt 0x10FFEF v)

-- whether a linear address can be reached through a segment
abbrev pub reaches : ℕ → ℕ → Bool
reaches segment address = nat_le (segment * 16) address && nat_le address (segment * 16 + 0xFFFF)

-- segment and offset of a linear address: those that there were, if the address is theirs; the same segment, if it
-- reaches the address; otherwise the highest segment below it
abbrev pub place_for : Memory → ℕ → ℕ → ℕ → ℕ × ℕ
place_for m segment offset address =
    if linear_of m segment offset == address then (segment, offset)
    else if reaches segment address then (segment, address - segment * 16)
    else (segment_below address, address - segment_below address * 16)

-- the registers with SS:SP at a place
abbrev pub with_stack : Cpu → ℕ × ℕ → Cpu
with_stack c place = record c { ss = place.0; sp = place.1 }

-- the registers with CS:IP at a place
abbrev pub with_code : Cpu → ℕ × ℕ → Cpu
with_code c place = record c { cs = place.0; ip = place.1 }

-- the registers with a value in one of them; of the value of a 16-bit register the low word counts
abbrev pub with_value : Memory → Cpu → ℕ → ℕ → Cpu
with_value m c n v =
    if n == 0 then record c { ax = v % 65536 }
    else if n == 1 then record c { cx = v % 65536 }
    else if n == 2 then record c { dx = v % 65536 }
    else if n == 3 then record c { bx = v % 65536 }
    else if n == 4 then with_stack c (place_for m c.ss c.sp v)
    else if n == 5 then record c { bp = v % 65536 }
    else if n == 6 then record c { si = v % 65536 }
    else if n == 7 then record c { di = v % 65536 }
    else if n == 8 then with_code c (place_for m c.cs c.ip v)
    else if n == 9 then record c { flags = flags_of (v % 65536) }
    else if n == 10 then record c { cs = v % 65536 }
    else if n == 11 then record c { ss = v % 65536 }
    else if n == 12 then record c { ds = v % 65536 }
    else if n == 13 then record c { es = v % 65536 }
    else if n == 32 then record c { ip = v % 65536 }
    else if n == 33 then record c { sp = v % 65536 }
    else c

-- the registers with a value in one of them, if there is a value, and the register can have it
abbrev pub with_value_if : Memory → Cpu → ℕ → Option ℕ → Option Cpu
with_value_if m c n None = None
with_value_if m c n (Some v) = if is_reached n v then Some (with_value m c n v) else None

-- the registers with one set to bytes; None if it cannot be set to them
abbrev pub registers_with : Memory → Cpu → ℕ → List ℕ → Option Cpu
registers_with m c n bytes = with_value_if m c n (register_value n bytes)
