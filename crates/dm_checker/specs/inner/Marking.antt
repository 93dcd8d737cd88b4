-- What marks say of memory, of headers and of free blocks.
use Rattle.std.specs.Prelude.{◌≡◌, ℕ, ◌+◌, ◌-◌, ◌/◌, ◌<◌, ◌≤◌, ◌&&◌, not, is_some, Bool, false, List, slice_index_or, Option, None}
use Rattle.dm_blocks.specs.declared.header.Header.{Header}
use Rattle.dm_touches.specs.quiet.Marks.{level_at}
use Rattle.dm_checker.specs.declared.arena_copy.HeaderCopy.{HeaderCopy}

-- where `old` has level n or a higher one, `new` has too
abbrev pub Keeps : ℕ → List ℕ → List ℕ → Type 0
Keeps n old new = (p : ℕ) → n ≤ level_at old p → n ≤ level_at new p

-- writes are marked where there is no memory, at the end of memory, in the ROM, in windows that show no page, and, if a
-- header is in the frame (`high`), in all windows
pub record HasMap (windows : List (Option ℕ)) (high : Bool) (ms : List ℕ) : Type 0 where
  pub gap : (p : ℕ) → 0xC000 ≤ p → p < 0xD000 → 1 ≤ level_at ms p
  pub frame : (p : ℕ) → 0xE000 ≤ p → p < 0xF000 → (is_some (slice_index_or windows ((p - 0xE000) / 0x400) None) &&
      not high) ≡ false → 1 ≤ level_at ms p
  pub rom : (p : ℕ) → 0xF000 ≤ p → p < 0x10000 → 1 ≤ level_at ms p
  pub top : (p : ℕ) → 0x10FFF ≤ p → 1 ≤ level_at ms p

-- writes to the paragraph of the header are marked
abbrev pub HasHeader : List ℕ → HeaderCopy → Type 0
HasHeader ms x = 1 ≤ level_at ms x.header.segment

-- reads of and writes to the memory of the block behind the header are marked, if the block is free
abbrev pub HasFree : List ℕ → Header → Type 0
HasFree ms b = b.owner ≡ 0 → (p : ℕ) → b.segment + 1 ≤ p → p < b.segment + 1 + b.size → 2 ≤ level_at ms p
