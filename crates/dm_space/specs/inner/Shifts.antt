-- The table by which a space finds the spots of bytes in RAM and in its windows, as its invariant and private contracts
-- speak of it.
use Rattle.std.specs.Prelude.{◌≡◌, ℕ, ◌+◌, ◌-◌, ◌*◌, ◌^◌, ◌<◌, ◌≤◌, ◌⊎◌, Bool, true, List, Option, Some, None, slice_index, slice_index_or}
use Rattle.dm_pool.specs.declared.extent.Extent.{Extent}

-- the k-th 4000h linear addresses are those of a window, which shows a page, and n added to such an address is the spot
-- of its byte
pub record IsShift (places : List (Option Extent)) (block : Option ℕ) (k n : ℕ) : Type 0 where
  pub above : 56 ≤ k
  pub below : k < 60
  pub page : ℕ
  pub extent : Extent
  pub shows : block ≡ Some page
  pub lies : slice_index_or places page None ≡ Some extent
  pub large : 0x3FFF < extent.units * 1024
  pub spot : n + k * 0x4000 ≡ 0x310000 + extent.base * 1024
  pub small : n + k * 0x4000 + 0x3FFF < 2 ^ 42

-- the k-th 4000h linear addresses are RAM, whose spots they are themselves: below C0000h, upper memory, and the high
-- memory area while A20 is on (of which the last 16 addresses, that no segment reaches, are none)
abbrev pub IsRam : Bool → ℕ → Type 0
IsRam a20 k = (k < 48) ⊎ ((52 ≤ k) × (k < 56)) ⊎ ((64 ≤ k) × (a20 ≡ true))

-- each number of the table below 2 ^ 63 leads from addresses of RAM to their spots, or from those of a window to the
-- spots of the page that it shows
pub record AreShifts (a20 : Bool) (places : List (Option Extent)) (windows : List (Option ℕ)) (shifts : List ℕ)
    : Type 0 where
  pub most : (k : ℕ) → k < 68 → slice_index shifts k ≤ 0x8000000000000000
  pub known : (k : ℕ) → k < 68 → slice_index shifts k < 0x8000000000000000 →
      (IsRam a20 k × (slice_index shifts k ≡ 0)) ⊎
      IsShift places (slice_index_or windows (k - 56) None) k (slice_index shifts k)
