-- The memory of a machine as it starts (this machine's own): zeros, but for the 256 interrupt vectors (Intel 8086
-- Family User's Manual, "Interrupt pointer table") and the one arena header (MS-DOS Programmer's Reference, "Arena
-- header"); A20 is off, and no window shows a page.
use Rattle.std.specs.Prelude.{◌≡◌, ℕ, ◌*◌, ◌/◌, ◌%◌, ◌<◌, ◌≤◌, nat_lt, ◌==◌, if◌then◌else◌, List, length, slice_index}
use Rattle.dm_pool.specs.Blocks.{Blocks}
use Rattle.dm_pool.specs.Stored.{Stored}
use Rattle.dm_space.specs.EntryPoints.{entry_segment, expanded_memory_segment, expanded_memory_offset}
use Rattle.dm_space.specs.Memory.{Memory, Held, of_ram}

-- the offset that the vector of interrupt n holds: 4 * n, but 0020h for the expanded memory driver (INT 67h)
abbrev pub vector_offset : ℕ → ℕ
vector_offset n = if n == 0x67 then expanded_memory_offset else n * 4

-- the segment that the vector of interrupt n holds: F000h, but F100h for the expanded memory driver (INT 67h)
abbrev pub vector_segment : ℕ → ℕ
vector_segment n = if n == 0x67 then expanded_memory_segment else entry_segment

-- byte k of the vector of interrupt n: the offset's low and high byte, then the segment's low and high byte
abbrev pub vector_byte : ℕ → ℕ → ℕ
vector_byte n k =
    if k == 0 then vector_offset n % 256 else
    if k == 1 then vector_offset n / 256 else
    if k == 2 then vector_segment n % 256 else vector_segment n / 256

-- the byte of RAM at a linear address as the machine starts: the vectors, then at 0100:0000 the header `Z`, owner 0,
-- size 9EFFh paragraphs, else 0
unfoldable pub start_byte : ℕ → ℕ
start_byte a =
    if nat_lt a 0x400 then vector_byte (a / 4) (a % 4) else
    if a == 0x1000 then 0x5A else
    if a == 0x1003 then 0xFF else
    if a == 0x1004 then 0x9E else 0

-- ram is low with the bytes of the start laid over its first 1005h bytes, up to the end of the size in the first arena
-- header; the other bytes stay
pub record IsLaidOver (low ram : List ℕ) : Type 0 where
  pub size : length ram ≡ length low
  pub laid : (a : ℕ) → a < 0x1005 → slice_index ram a ≡ start_byte a
  pub rest : (a : ℕ) → 0x1005 ≤ a → slice_index ram a ≡ slice_index low a

-- h is the memory of a machine that starts over the store s: the bytes of the start are laid over its low bytes, A20 is
-- off, no window shows a block, and blocks and scratch bytes are those of the store
pub record IsStartOver (s : Stored) (h : Held) : Type 0 where
  pub ram : IsLaidOver s.low h.memory.low
  pub others : h ≡ record { memory = of_ram h.memory.low s.blocks; scratch = s.scratch }

-- all RAM as a machine starts: 110000h bytes, the vectors, the first arena header, and zeros
pub record IsStartOfRam (ram : List ℕ) : Type 0 where
  pub size : length ram ≡ 0x110000
  pub bytes : (a : ℕ) → a < 0x110000 → slice_index ram a ≡ start_byte a

-- the memory of a machine as it starts, over those blocks
pub record IsStart (blocks : Blocks) (m : Memory) : Type 0 where
  pub ram : IsStartOfRam m.low
  pub others : m ≡ of_ram m.low blocks
