-- A word of a header that stands in RAM, written at once.
use Rattle.std.proofs.Common.{◌≡◌, ℕ, ◌+◌, ◌*◌, ◌/◌, ◌%◌, ◌<◌, sym, ◌∙◌, ap, subst, arith}
use Rattle.std.proofs.lemmas.List.{length-set}
use Rattle.dm_space.specs.declared.place.Place.{Place}
use Rattle.dm_space.specs.declared.place.Place.TheVariants.{Low}
use Rattle.dm_space.specs.Memory.{Memory, Held, IsHeld, Fits, linear, poke, poke16, with_byte}
use Rattle.dm_space.specs.inner.Places.{IsPoked}
use Rattle.dm_space.proofs.Places.{linear-low, place-low, poke-poked}

-- a write below the frame keeps the sizes
low-fits : (m : Memory) (a v : ℕ) → a < 0xC0000 → Fits m → Fits (poke m a v)
unfolding poke
low-fits m a v h f =
    let F : Place → Type 0 = λ p. Fits (with_byte m p v) in
    let low : Fits (with_byte m (Low a) v) = record {
      low_length = length-set m.low a v ∙ f.low_length;
      windows_are_four = f.windows_are_four;
      pages_there = f.pages_there;
    } in
    subst F (sym (place-low m a h)) low

linear-of : (m : Memory) (segment offset : ℕ) → segment < 0xC000 → offset < 16 →
    linear m.a20 segment offset ≡ 16 * segment + offset
linear-of m segment offset h k = linear-low m.a20 segment offset (omega arith) ∙ omega arith

pub word-poked : (s : Held) (t : Held) (segment offset v : ℕ) → segment < 0xC000 → offset < 15 → IsHeld s →
    t ≡ record s { memory = poke16 s.memory segment offset v } → (M : Memory) ×
    IsPoked s.memory (16 * segment + offset) (v % 256) M × IsPoked M (16 * segment + (offset + 1)) (v / 256) t.memory
word-poked s t segment offset v h k held e =
    let m = s.memory in
    let one = poke m (16 * segment + offset) (v % 256) in
    let first = ap (λ a. poke m a (v % 256)) (linear-of m segment offset h (omega arith)) in
    let wrap : (offset + 1) % 65536 ≡ offset + 1 = omega arith in
    let second = ap (λ o. linear m.a20 segment o) wrap ∙ linear-of m segment (offset + 1) h (omega arith) in
    let is : t.memory ≡ poke one (16 * segment + (offset + 1)) (v / 256) =
    ap (λ x. x.memory) e ∙ ap (λ n. poke n (linear m.a20 segment ((offset + 1) % 65536)) (v / 256)) first
    ∙ ap (λ a. poke one a (v / 256)) second in
    let P : Memory → Type 0 = λ n. IsPoked one (16 * segment + (offset + 1)) (v / 256) n in (
      one,
      poke-poked m (16 * segment + offset) (v % 256) held.fits,
      subst P (sym is) (poke-poked one (16 * segment + (offset + 1)) (v / 256) (low-fits m (16 * segment + offset)
          (v % 256) (omega arith) held.fits)),
    )
