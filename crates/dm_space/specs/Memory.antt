-- The memory of a real-mode machine: what stands at each linear address.
-- Intel 8086 Family User's Manual, "Memory": segments, linear addresses, words with the low byte first.
-- The map from A0000h up is this machine's own. Pages of expanded memory (LIM EMS 4.0) are blocks of a pool.
use Rattle.std.specs.Prelude.{◌≡◌, ℕ, ◌+◌, ◌-◌, ◌*◌, ◌/◌, ◌%◌, ◌<◌, ◌≤◌, ◌⊎◌, Bool, false, nat_lt, if◌then◌else◌, List, [], ◌∷◌, length, slice_index, slice_index_or, slice_set, Option, Some, None, IfSome}
use Rattle.dm_pool.specs.Blocks.{Blocks, IsLive, with_content}
use Rattle.dm_space.specs.declared.place.Place.{Place}
use Rattle.dm_space.specs.declared.place.Place.TheVariants.{Low, Page, Rom, Nothing}
use Rattle.dm_space.specs.Rom.{rom}

-- what a program's reads and writes depend on, and the blocks that it does not see
pub record Memory : Type 0 where
  -- the bytes of RAM, by linear address
  pub low : List ℕ
  -- the pool, of which some blocks are pages of expanded memory
  pub blocks : Blocks
  -- the block that each of the four windows of the frame shows
  pub windows : List (Option ℕ)
  -- whether address line 20 is on
  pub a20 : Bool

-- segment * 16 + offset, without bit 20 while A20 is off
abbrev pub linear : Bool → ℕ → ℕ → ℕ
linear a20 segment offset =
    if a20 then segment * 16 + offset else (segment * 16 + offset) % 0x100000

-- the place of byte k of the block that a window shows; no memory if it shows none
abbrev pub shown : Option ℕ → ℕ → Place
shown None k = Nothing
shown (Some page) k = Page page k

-- the place of a linear address, A20 taken as on: RAM below C0000h, nothing from C0000h, upper memory RAM from D0000h,
-- the frame's four windows from E0000h, ROM from F0000h, the high memory area from 100000h to 10FFEFh, nothing above
unfoldable pub place : Memory → ℕ → Place
place m a =
    if nat_lt a 0xC0000 then Low a else
    if nat_lt a 0xD0000 then Nothing else
    if nat_lt a 0xE0000 then Low a else
    if nat_lt a 0xF0000 then shown (slice_index_or m.windows ((a - 0xE0000) / 0x4000) None) ((a - 0xE0000) % 0x4000)
    else
    if nat_lt a 0x100000 then Rom (a - 0xF0000) else
    if nat_lt a 0x10FFF0 then Low a else Nothing

-- RAM below the frame, where an address is its own place: conventional memory and the video memory, and upper memory
abbrev pub InRam : ℕ → Type 0
InRam a = (a < 0xC0000) ⊎ ((0xD0000 ≤ a) × (a < 0xE0000))

-- the bytes of a block of the pool, which may be a page of expanded memory; none if there is no such block
abbrev pub page_bytes : Memory → ℕ → List ℕ
page_bytes m page = slice_index_or m.blocks.contents page []

-- the byte that is kept at a place; FFh where there is no memory
abbrev pub byte_at : Memory → Place → ℕ
byte_at m (Low a) = slice_index m.low a
byte_at m (Page page k) = slice_index (page_bytes m page) k
byte_at m (Rom k) = rom k
byte_at m Nothing = 0xFF

-- the memory with another pool; RAM, windows and A20 stay
abbrev pub with_blocks : Memory → Blocks → Memory
with_blocks m blocks = record m { blocks = blocks }

-- the memory with a byte written to a place: RAM and pages keep it, a write to ROM or to nothing changes nothing
abbrev pub with_byte : Memory → Place → ℕ → Memory
with_byte m (Low a) v = record m { low = slice_set m.low a v }
with_byte m (Page page k) v = with_blocks m (with_content m.blocks page (slice_set (page_bytes m page) k v))
with_byte m (Rom k) v = m
with_byte m Nothing v = m

-- the byte that a read of a linear address returns, A20 taken as on
unfoldable pub peek : Memory → ℕ → ℕ
peek m a = byte_at m (place m a)

-- the memory after a byte is written to a linear address, A20 taken as on
unfoldable pub poke : Memory → ℕ → ℕ → Memory
poke m a v = with_byte m (place m a) v

-- the word at segment:offset: its high byte is at the next offset, modulo 65,536
abbrev pub peek16 : Memory → ℕ → ℕ → ℕ
peek16 m segment offset =
    peek m (linear m.a20 segment offset) + 256 * peek m (linear m.a20 segment ((offset + 1) % 65536))

-- the memory with a word at segment:offset: its high byte is at the next offset, modulo 65,536
abbrev pub poke16 : Memory → ℕ → ℕ → ℕ → Memory
poke16 m segment offset v =
    poke (poke m (linear m.a20 segment offset) (v % 256)) (linear m.a20 segment ((offset + 1) % 65536)) (v / 256)

-- the memory with address line 20 on or off; all else stays
abbrev pub with_a20 : Memory → Bool → Memory
with_a20 m on = record m { a20 = on }

-- the memory whose window k of the frame shows that block, or none; all else stays
abbrev pub with_window : Memory → ℕ → Option ℕ → Memory
with_window m k block = record m { windows = slice_set m.windows k block }

-- there is such a block, and it has 4000h bytes, as a page has
abbrev pub IsPage : Memory → ℕ → Type 0
IsPage m block = IsLive m.blocks block × (length (page_bytes m block) ≡ 0x4000)

-- the sizes are those of the machine, and each window shows a page that is there, or none
pub record Fits (m : Memory) : Type 0 where
  pub low_length : length m.low ≡ 0x110000
  pub windows_are_four : length m.windows ≡ 4
  pub pages_there : (k : ℕ) → IfSome (slice_index_or m.windows k None) (λ page. IsPage m page)

-- the memory has the place: a byte of its RAM, of one of its blocks, or of the ROM, or no memory
abbrev pub IsThere : Memory → Place → Type 0
IsThere m (Low a) = a < length m.low
IsThere m (Page page k) = IsLive m.blocks page × (k < length (page_bytes m page))
IsThere m (Rom k) = k < 0x10000
IsThere m Nothing = Unit {0}

-- what a space holds: the memory, and the scratch bytes, which have no address
pub record Held : Type 0 where
  pub memory : Memory
  pub scratch : List ℕ

-- the memory fits the machine, and the scratch has 2 MiB
pub record IsHeld (h : Held) : Type 0 where
  pub fits : Fits h.memory
  pub scratch_length : length h.scratch ≡ 0x200000

-- the four windows of a frame that shows no page
abbrev pub no_windows : List (Option ℕ)
no_windows = None ∷ None ∷ None ∷ None ∷ []

-- the memory with these bytes of RAM and these blocks, whose frame shows none of them, A20 off
abbrev pub of_ram : List ℕ → Blocks → Memory
of_ram ram blocks = record { low = ram; blocks = blocks; windows = no_windows; a20 = false }
