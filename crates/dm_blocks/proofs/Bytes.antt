-- The bytes of a paragraph: A20 and the wrap of offsets never matter there.
use Rattle.std.proofs.Common.{◌≡◌, ℕ, ◌+◌, ◌*◌, ◌<◌, ◌≤◌, sym, ◌∙◌, ap, subst, arith}
use Rattle.dm_space.specs.Memory.{Memory, Held, IsHeld, linear, peek, poke}
use Rattle.dm_space.specs.inner.Places.{IsPoked}
use Rattle.dm_space.proofs.Places.{linear-low, poke-poked}

linear-of : (m : Memory) (segment offset : ℕ) → segment ≤ 0xFFFF → offset < 16 →
    linear m.a20 segment offset ≡ 16 * segment + offset
linear-of m segment offset h k = linear-low m.a20 segment offset (omega arith) ∙ omega arith

pub read-at : (m : Memory) (segment offset v : ℕ) → segment ≤ 0xFFFF → offset < 16 →
    v ≡ peek m (linear m.a20 segment offset) → v ≡ peek m (16 * segment + offset)
read-at m segment offset v h k e = e ∙ ap (peek m) (linear-of m segment offset h k)

pub write-at : (s : Held) (t : Held) (segment offset v : ℕ) → segment ≤ 0xFFFF → offset < 16 → IsHeld s →
    t ≡ record s { memory = poke s.memory (linear s.memory.a20 segment offset) v } →
    IsPoked s.memory (16 * segment + offset) v t.memory
write-at s t segment offset v h k held e =
    let F : ℕ → Memory → Type 0 = λ a m. IsPoked s.memory a v m in
    let is : t.memory ≡ poke s.memory (16 * segment + offset) v = ap (λ x. x.memory) e
    ∙ ap (λ a. poke s.memory a v) (linear-of s.memory segment offset h k) in
    subst (F (16 * segment + offset)) (sym is) (poke-poked s.memory (16 * segment + offset) v held.fits)
