-- Laws of memory for the layers above, which see peek and poke as opaque
use Rattle.std.specs.Prelude.{IfSome}
use Rattle.std.proofs.Common.{Some, ◌≡◌, ℕ, suc, zero, List, Option, None, length, get_or, refl}
use Rattle.dm_space.specs.declared.place.Place.{Place}
use Rattle.dm_space.specs.declared.place.Place.TheVariants.{Low, Page, Rom, Nothing}
use Rattle.dm_pool.specs.Blocks.{Blocks}
use Rattle.dm_space.specs.Memory.{Memory, place, poke, with_byte, no_windows, of_ram, IsPage, Fits}

with_byte-a20 : (m : Memory) (p : Place) (v : ℕ) → (with_byte m p v).a20 ≡ m.a20
with_byte-a20 m (Low a) v = refl
with_byte-a20 m (Page q a) v = refl
with_byte-a20 m (Rom a) v = refl
with_byte-a20 m Nothing v = refl

pub with_byte-windows : (m : Memory) (p : Place) (v : ℕ) → (with_byte m p v).windows ≡ m.windows
with_byte-windows m (Low a) v = refl
with_byte-windows m (Page q a) v = refl
with_byte-windows m (Rom a) v = refl
with_byte-windows m Nothing v = refl

-- a write changes neither A20 nor the windows
pub poke-a20 : (m : Memory) (a v : ℕ) → (poke m a v).a20 ≡ m.a20
unfolding poke
poke-a20 m a v = with_byte-a20 m (place m a) v

pub poke-windows : (m : Memory) (a v : ℕ) → (poke m a v).windows ≡ m.windows
unfolding poke
poke-windows m a v = with_byte-windows m (place m a) v

-- a frame that shows no page shows none in any window
pub no_windows-get : (k : ℕ) → get_or no_windows k None ≡ None
no_windows-get zero = refl
no_windows-get (suc zero) = refl
no_windows-get (suc (suc zero)) = refl
no_windows-get (suc (suc (suc zero))) = refl
no_windows-get (suc (suc (suc (suc k)))) = refl

fits-windows : (m : Memory) (o : Option ℕ) → o ≡ None → IfSome o (λ page. IsPage m page)
fits-windows m None e = tt
fits-windows m (Some page) e = cc

-- a memory whose frame is empty has the machine's sizes where its RAM has
pub fits-ram : (ram : List ℕ) (blocks : Blocks) → length ram ≡ 0x110000 → Fits (of_ram ram blocks)
fits-ram ram blocks h = record {
  low_length = h;
  windows_are_four = refl;
  pages_there = λ k. fits-windows (of_ram ram blocks) _ (no_windows-get k);
}

pub ruleset steps = (poke-a20, poke-windows)
