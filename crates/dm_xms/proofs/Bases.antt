-- Where a block lies that is not there.
use Rattle.std.specs.Bool.{IsTrue}
use Rattle.std.proofs.Common.{◌≡◌, ℕ, false, ◌+◌, ◌*◌, ◌<◌, Option, Some, None, get_or, refl, sym, ap}
use Rattle.dm_pool.specs.declared.extent.Extent.{Extent}
use Rattle.dm_pool.specs.Blocks.{Blocks, IsLive}
use Rattle.dm_space.specs.Memory.{Memory}
use Rattle.dm_xms.specs.Blocks.{first_unit, begin_address}

no_base : (s : Blocks) (i : ℕ) → i < 576 → (IsLive s i → ⊥) → first_unit (get_or s.places i None) ≡ 0
no_base s i h n = either (get_or s.places i None) refl
  where
    either : (o : Option Extent) → get_or s.places i None ≡ o → first_unit o ≡ 0
    either None e = refl
    either (Some b) e = absurd (n (h, (b, e)))

pub nothing_there : (m : Memory) (i : ℕ) → i < 576 → (IsLive m.blocks i → IsTrue false) → 0x110000 ≡ begin_address m i
nothing_there m i h n = ap (λ k. 0x110000 + 0x400 * k) (sym (no_base m.blocks i h (λ live. let e = n live in let z : ⊥ =
    cc in z)))
