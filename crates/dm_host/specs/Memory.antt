-- Reading a host's guest memory, and copying bytes to a buffer.
use Rattle.std.specs.Prelude.{◌≡◌, ℕ, ◌%◌, ◌<◌, ◌≤◌, Bool, true, false, List, ◌++◌, length, drop}
use Rattle.dm_space.specs.Memory.{Memory, linear, peek}
use Rattle.dm_space.specs.Copies.{values}

-- the byte of a segment at the offset k, which wraps at 65,536
abbrev pub byte_at_offset : Memory → ℕ → ℕ → ℕ
byte_at_offset m segment k = peek m (linear m.a20 segment (k % 65536))

-- the n bytes of memory from segment:offset on; offsets wrap in the segment
abbrev pub bytes_at : Memory → ℕ → ℕ → ℕ → List ℕ
bytes_at m segment offset n = values (byte_at_offset m segment) offset n

-- the buffer `new` is `old` with the items at its front, if they fit (true); otherwise it is `old` (false)
abbrev pub Copies : {A : Type 0} → List A → List A → List A → Bool → Type 0
Copies items old new true = (length items ≤ length old) × (new ≡ items ++ drop (length items) old)
Copies items old new false = (length old < length items) × (new ≡ old)
