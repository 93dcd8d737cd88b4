-- Marks on the memory that events look at. Private contracts and proofs alone name these.
use Rattle.std.specs.Prelude.{◌≡◌, ℕ, ◌+◌, ◌/◌, ◌<◌, ◌≤◌, nat_le, Bool, true, List, All}
use Rattle.dm_touches.specs.quiet.Marks.{level_at}
use Rattle.dm_space.specs.Memory.{Memory}
use Rattle.dm_debug.specs.declared.stops.events.Event.{Event}
use Rattle.dm_debug.specs.declared.stops.events.Event.TheVariants.{At, Address, Change, Call, Function}
use Rattle.dm_debug.specs.stops.Events.{bytes_for}

-- what the paragraphs of an event are marked with
abbrev pub level_of : Event → ℕ
level_of (At p) = 0
level_of (Address a) = 0
level_of (Change r) = 1
level_of (Call n) = 2
level_of (Function n ah) = 2

-- the first paragraph of an event: of its range, or of the vector of its interrupt
abbrev pub first_of : Event → ℕ
first_of (At p) = 0
first_of (Address a) = 0
first_of (Change r) = r.address / 16
first_of (Call n) = n / 4
first_of (Function n ah) = n / 4

-- the paragraph behind the last one of an event
abbrev pub end_of : Event → ℕ
end_of (At p) = 0
end_of (Address a) = 0
end_of (Change r) = (r.address + r.length + 15) / 16
end_of (Call n) = n / 4 + 1
end_of (Function n ah) = n / 4 + 1

-- whether marks tell whether the event can come: a range ends below C0000h, where an address is its own place
abbrev pub is_markable : Event → Bool
is_markable (Change r) = nat_le (r.address + r.length) 0xC0000
is_markable _ = true

-- the paragraphs of an event have this level or a higher one
abbrev pub HasLevel : ℕ → List ℕ → Event → Type 0
HasLevel level ms e = (p : ℕ) → first_of e ≤ p → p < end_of e → level ≤ level_at ms p

-- the memory that an event looks at is marked
abbrev pub IsGuarded : List ℕ → Event → Type 0
IsGuarded ms e = HasLevel (level_of e) ms e

-- the memory that an event looks at is marked if its level is this one
abbrev pub IsGuardedAt : ℕ → List ℕ → Event → Type 0
IsGuardedAt level ms e = level_of e ≡ level → HasLevel level ms e

-- where `old` has level n or a higher one, `new` has too
abbrev pub Keeps : ℕ → List ℕ → List ℕ → Type 0
Keeps n old new = (p : ℕ) → n ≤ level_at old p → n ≤ level_at new p

-- the ranges of the events have the same bytes in the memory m as in `start`
abbrev pub AreStill : Memory → Memory → List Event → Type 0
AreStill start m events = All (λ e. bytes_for m e ≡ bytes_for start e) events
