-- Events that end a run after a step: an address of code, a change of memory, a call of an interrupt that is next.
-- Source: Intel 8086 Family User's Manual, "Memory" (segment * 16 + offset) and "INT" (CDh and the number).
use Rattle.std.specs.Prelude.{ℕ, ◌+◌, ◌-◌, ◌*◌, ◌/◌, ◌==◌, ◌&&◌, Bool, true, false, not, min, nat_lt, if◌then◌else◌, List, [], ◌∷◌, Option, Some, None}
use Rattle.dm_space.specs.Memory.{Memory, linear, peek}
use Rattle.dm_space.specs.Copies.{values}
use Rattle.dm_space.specs.EightBytes.{byte_after}
use Rattle.dm_services.specs.state.State.{State}
use Rattle.dm_debug.specs.declared.stops.events.Event.{Event}
use Rattle.dm_debug.specs.declared.stops.events.Event.TheVariants.{At, Address, Change, Call, Function}
use Rattle.dm_debug.specs.declared.stops.events.Range.{Range}

-- ---- memory by linear addresses

-- the segment through which a byte is read: the highest whose first byte is not above it, at most FFFFh
abbrev pub segment_below : ℕ → ℕ
segment_below address = min (address / 16) 0xFFFF

-- the byte at a linear address up to FFFF:FFFF, as a program reads it
abbrev pub byte_at : Memory → ℕ → ℕ
byte_at m address = peek m (linear m.a20 (segment_below address) (address - segment_below address * 16))

-- how many bytes of the range there are: those up to FFFF:FFFF
abbrev pub bytes_there : Range → ℕ
bytes_there r = if nat_lt 0x10FFEF r.address then 0 else min r.length (0x10FFF0 - r.address)

-- the bytes of the range, as a program reads them
abbrev pub range_bytes : Memory → Range → List ℕ
range_bytes m r = values (byte_at m) r.address (bytes_there r)

-- whether memory has these bytes from an address up
abbrev pub reads_as : Memory → ℕ → List ℕ → Bool
reads_as m address [] = true
reads_as m address (b ∷ bs) = if byte_at m address == b then reads_as m (address + 1) bs else false

-- the linear address of CS:IP: without bit 20 while A20 is off
abbrev pub code_address : State → ℕ
code_address s = linear s.memory.a20 s.cpu.cs s.cpu.ip

-- ---- events

-- whether the bytes at CS:IP are CDh and this number; offsets wrap
abbrev pub calls : State → ℕ → Bool
calls s n =
    byte_after s.memory s.cpu.cs s.cpu.ip 0 == 0xCD && byte_after s.memory s.cpu.cs s.cpu.ip 1 == n

-- the bytes of an event's range; none if it has no range
abbrev pub bytes_for : Memory → Event → List ℕ
bytes_for m (Change r) = range_bytes m r
bytes_for m _ = []

-- whether an event has come in the state s, if these were the bytes of its range before
abbrev pub comes : State → Event → List ℕ → Bool
comes s (At p) before = p.offset == s.cpu.ip && p.segment == s.cpu.cs
comes s (Address a) before = a == code_address s
comes s (Change r) before = not (reads_as s.memory r.address before)
comes s (Call n) before = calls s n
comes s (Function n ah) before = calls s n && s.cpu.ax / 256 == ah

-- whether an event has come in the state s of a run that began with this memory
abbrev pub has_come : Memory → State → Event → Bool
has_come start s e = comes s e (bytes_for start e)

-- the number of the first element that satisfies the test, counted from k; None if none does
abbrev pub first_from : {X : Type 0} → (X → Bool) → ℕ → List X → Option ℕ
first_from p k [] = None
first_from p k (x ∷ xs) = if p x then Some k else first_from p (k + 1) xs

-- the index, from 0, of the first event that has come in the state s of a run that began with this memory;
-- None if none has
abbrev pub first_come : Memory → List Event → State → Option ℕ
first_come start events s = first_from (has_come start s) 0 events
