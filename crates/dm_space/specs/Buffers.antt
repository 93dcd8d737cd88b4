-- Bytes in the buffers of programs. Offsets wrap in their segment (Intel 8086 Family User's Manual, "Memory").
use Rattle.std.specs.Prelude.{ℕ, suc, ◌%◌, List, [], ◌∷◌}
use Rattle.dm_space.specs.Memory.{Memory, linear, poke}

-- the memory after the bytes have been written one by one, upwards from segment:offset on; offsets wrap
-- (Space.write_bytes)
unfoldable pub with_bytes : Memory → ℕ → ℕ → List ℕ → Memory
with_bytes m segment offset [] = m
with_bytes m segment offset (byte ∷ bytes) =
    with_bytes (poke m (linear m.a20 segment (offset % 65536)) byte) segment (suc offset) bytes
