-- The fields of a header, as they are read from the first bytes of its paragraph.
use Rattle.std.specs.Prelude.{◌≡◌, ℕ, ◌+◌, ◌*◌, ◌<◌}
use Rattle.dm_space.specs.Memory.{Memory, peek}
use Rattle.dm_blocks.specs.Chain.{word}
use Rattle.dm_blocks.specs.declared.header.Fields.{Fields}

-- memory has these fields in the paragraph at segment h, whether they are those of a header or not
pub record HasFields (S : Memory) (h : ℕ) (f : Fields) : Type 0 where
  pub signature : f.signature ≡ peek S (16 * h)
  pub owner : f.owner ≡ word S (16 * h + 1)
  pub size : f.size ≡ word S (16 * h + 3)
  pub bytes : (k : ℕ) → k < 5 → peek S (16 * h + k) < 256
