-- Spans that overlap: they share a place that is memory or ROM (LIM EMS 4.0, function 24).
use Rattle.std.specs.Prelude.{ℕ, zero, suc, ◌==◌, ◌&&◌, ◌||◌, Bool, false}
use Rattle.dm_space.specs.declared.place.Place.{Place}
use Rattle.dm_space.specs.declared.place.Place.TheVariants.{Low, Page, Rom, Nothing}
use Rattle.dm_space.specs.Memory.{Memory}
use Rattle.dm_space.specs.moves.Spans.{Span, place_in}

-- both are the same place, and it is RAM, a block or ROM
abbrev pub is_shared : Place → Place → Bool
is_shared (Low a) (Low b) = a == b
is_shared (Low a) (Page q l) = false
is_shared (Low a) (Rom b) = false
is_shared (Low a) Nothing = false
is_shared (Page p k) (Low b) = false
is_shared (Page p k) (Page q l) = (p == q) && (k == l)
is_shared (Page p k) (Rom b) = false
is_shared (Page p k) Nothing = false
is_shared (Rom a) (Low b) = false
is_shared (Rom a) (Page q l) = false
is_shared (Rom a) (Rom b) = a == b
is_shared (Rom a) Nothing = false
is_shared Nothing q = false

-- f holds for some number below n, such as that of a byte of a span
abbrev pub any_below : ℕ → (ℕ → Bool) → Bool
any_below zero f = false
any_below (suc n) f = any_below n f || f n

-- f holds for some number below n with some number below l, such as those of bytes of two spans
abbrev pub any_two : ℕ → ℕ → (ℕ → ℕ → Bool) → Bool
any_two n l f = any_below n (λ i. any_below l (f i))

-- the first n bytes of one span and the first n of the other have a place in common that is RAM, a block or ROM
unfoldable pub overlap : Memory → Span → Span → ℕ → Bool
overlap m from to n = any_two n n (λ i j. is_shared (place_in m from i) (place_in m to j))
