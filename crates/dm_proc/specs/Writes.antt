-- Lists of writes to memory, applied in turn: those of a process's start, of an overlay, and of the vectors at an end.
-- A block here is any run of bytes from a segment upwards, which may be longer than 64 KiB.
use Rattle.std.specs.Prelude.{ℕ, suc, zero, ◌+◌, ◌/◌, ◌%◌, Bool, List, [], ◌∷◌}
use Rattle.dm_space.specs.Memory.{Memory, linear, peek, poke}

-- one write: a linear address, and the byte that is written there
pub record Write : Type 0 where
  pub address : ℕ
  pub byte : ℕ

-- the memory after the writes, in their order
abbrev pub apply : List Write → Memory → Memory
apply [] m = m
apply (w ∷ ws) m = apply ws (poke m w.address w.byte)

-- the linear address of byte k of the block at a segment: offset k modulo 16 of the segment k / 16 paragraphs up,
-- which wraps at 65,536
abbrev pub block_address : Bool → ℕ → ℕ → ℕ
block_address a20 segment k = linear a20 ((segment + k / 16) % 65536) (k % 16)

-- the writes of these bytes in the block at a segment, from byte k on
abbrev pub upwards : Bool → ℕ → ℕ → List ℕ → List Write
upwards a20 segment k [] = []
upwards a20 segment k (b ∷ bs) = record { address = block_address a20 segment k; byte = b }
    ∷ upwards a20 segment (suc k) bs

-- the writes of these bytes in the block at a segment, from byte 0 on
abbrev pub block : Bool → ℕ → List ℕ → List Write
block a20 segment bytes = upwards a20 segment 0 bytes

-- the n bytes at segment:offset and upwards, of a name, a command tail, a file control block, an environment or
-- vectors; offsets wrap at 65,536
abbrev pub bytes_from : Memory → ℕ → ℕ → ℕ → List ℕ
bytes_from m segment offset zero = []
bytes_from m segment offset (suc n) = peek m (linear m.a20 segment (offset % 65536))
    ∷ bytes_from m segment (suc offset) n
