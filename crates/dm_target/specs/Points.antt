-- Breakpoints and watchpoints that are set.
-- Source: GDB manual, "GDB Remote Serial Protocol", "Packets" (`Z` and `z`: to set what is set, or to remove what is
-- not, changes nothing).
use Rattle.std.specs.Prelude.{ℕ, ◌==◌, ◌&&◌, Bool, if◌then◌else◌, List, [], ◌∷◌, ◌++◌, position, remove, Option, Some, None}
use Rattle.std.specs.List.{list_any}
use Rattle.dm_requests.specs.declared.request.WatchedAccess.{WatchedAccess}
use Rattle.dm_requests.specs.declared.request.WatchedAccess.TheVariants.{Execute, Write, Read, Either}
use Rattle.dm_requests.specs.declared.request.Point.{Point}
use Rattle.dm_target.specs.Going.{is_among}

-- the linear addresses of breakpoints, and the watchpoints, in the order of setting
pub record Set : Type 0 where
  pub breaks : List ℕ
  pub watches : List Point

-- the number of an access in a packet
abbrev pub type_of : WatchedAccess → ℕ
type_of Execute = 0
type_of Write = 2
type_of Read = 3
type_of Either = 4

-- whether two watchpoints have the same access and the same range
abbrev pub is_same : Point → Point → Bool
is_same p q = type_of q.access == type_of p.access && q.address == p.address && q.length == p.length

-- nothing is set
abbrev pub none_set : Set
none_set = record { breaks = []; watches = [] }

-- the breakpoints with one at an address, at the end unless it is set already
abbrev pub with_break : List ℕ → ℕ → List ℕ
with_break breaks address = if is_among breaks address then breaks else breaks ++ address ∷ []

-- the watchpoints with one more, at the end unless it is set already
abbrev pub with_watch : List Point → Point → List Point
with_watch watches point = if list_any (is_same point) watches then watches else watches ++ point ∷ []

-- a list without the element at this place; for None, all of it
abbrev pub without_place : {X : Type 0} → Option ℕ → List X → List X
without_place None xs = xs
without_place (Some k) xs = remove xs k

-- the breakpoints without the one at an address, if it is set
abbrev pub without_break : List ℕ → ℕ → List ℕ
without_break breaks address = without_place (position (λ p. p == address) breaks) breaks

-- the watchpoints without one, if it is set
abbrev pub without_watch : List Point → Point → List Point
without_watch watches point = without_place (position (is_same point) watches) watches

-- what is set, with a breakpoint or watchpoint more; of a breakpoint the length does not matter
abbrev pub with_point_as : WatchedAccess → Set → Point → Set
with_point_as Execute s point = record s { breaks = with_break s.breaks point.address }
with_point_as _ s point = record s { watches = with_watch s.watches point }

abbrev pub with_point : Set → Point → Set
with_point s point = with_point_as point.access s point

-- what is set, without a breakpoint or watchpoint
abbrev pub without_point_as : WatchedAccess → Set → Point → Set
without_point_as Execute s point = record s { breaks = without_break s.breaks point.address }
without_point_as _ s point = record s { watches = without_watch s.watches point }

abbrev pub without_point : Set → Point → Set
without_point s point = without_point_as point.access s point
