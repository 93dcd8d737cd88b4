-- Bytes copied one by one upwards, between the scratch bytes and linear addresses (A20 taken as on) or a block, in a
-- space that holds h. The source, and all that is not written, stays.
use Rattle.std.specs.Prelude.{ℕ, zero, suc, List, [], ◌∷◌}
use Rattle.dm_region.specs.Parts.{part, with_part}
use Rattle.dm_pool.specs.Blocks.{with_content}
use Rattle.dm_space.specs.Memory.{Memory, Held, peek, poke, page_bytes, with_blocks}

-- the values of f at the n numbers from a on, such as the bytes that reads of n addresses return
abbrev pub values : (ℕ → ℕ) → ℕ → ℕ → List ℕ
values f a zero = []
values f a (suc n) = f a ∷ values f (suc a) n

-- the bytes that reads of the n linear addresses from a on return
abbrev pub bytes_read : Memory → ℕ → ℕ → List ℕ
bytes_read m a n = values (peek m) a n

-- the memory after these bytes have been written to the linear addresses from a on, one after the other
abbrev pub bytes_written : Memory → ℕ → List ℕ → Memory
bytes_written m a [] = m
bytes_written m a (v ∷ vs) = bytes_written (poke m a v) (suc a) vs

-- h after the n bytes from the linear address a on have been copied into the scratch bytes from `at` on (Space.copy_in)
abbrev pub copied_in : Held → ℕ → ℕ → ℕ → Held
copied_in h a at n = record h { scratch = with_part h.scratch at n (bytes_read h.memory a n) }

-- h after the n scratch bytes from `at` on have been written to the linear addresses from a on (Space.copy_out)
abbrev pub copied_out : Held → ℕ → ℕ → ℕ → Held
copied_out h at a n = record h { memory = bytes_written h.memory a (part h.scratch at n) }

-- h after the n bytes of a block from its byte `from` on have been copied into the scratch bytes from `at` on
-- (Space.copy_block_in)
abbrev pub block_copied_in : Held → ℕ → ℕ → ℕ → ℕ → Held
block_copied_in h block from at n =
    record h { scratch = with_part h.scratch at n (part (page_bytes h.memory block) from n) }

-- h after the n scratch bytes from `at` on have been copied into a block from its byte `to` on (Space.copy_block_out)
abbrev pub block_copied_out : Held → ℕ → ℕ → ℕ → ℕ → Held
block_copied_out h at block to n =
    record h {
      memory = with_blocks h.memory (with_content h.memory.blocks block
          (with_part (page_bytes h.memory block) to n (part h.scratch at n)));
    }
