-- The breakpoints of a debugging session, in the order of setting.
use Rattle.std.specs.Prelude.{◌≢◌, ℕ, Bool, false, ◌&&◌, ◌==◌, nat_le, if◌then◌else◌, List, [], ◌∷◌, ◌++◌, length, position, remove, is_some, AllPairs, Option, Some, None}
use Rattle.std.specs.List.{flat_map}
use Rattle.dm_requests.specs.declared.commands.command.LogicalAddress.{LogicalAddress}
use Rattle.dm_machine.specs.declared.until.Breakpoint.{Breakpoint}
use Rattle.dm_views.specs.Digits.{address_text}

-- the breakpoint at exactly this segment and offset
abbrev pub point_at : LogicalAddress → Breakpoint
point_at a = record { segment = a.segment; offset = a.offset }

-- whether the breakpoint is the one at exactly this segment and offset
abbrev pub is_point : LogicalAddress → Breakpoint → Bool
is_point a p = p.offset == a.offset && p.segment == a.segment

-- whether a breakpoint is set at the address
abbrev pub is_set : List Breakpoint → LogicalAddress → Bool
is_set points a = is_some (position (is_point a) points)

-- no two of the breakpoints are at one segment and offset
abbrev pub AreDistinct : List Breakpoint → Type 0
AreDistinct points = AllPairs (λ p q. p ≢ q) points

-- whether a breakpoint at the address would be a seventeenth: none is set there, and sixteen are
abbrev pub is_seventeenth : List Breakpoint → LogicalAddress → Bool
is_seventeenth points a = if is_set points a then false else nat_le 16 (length points)

-- the breakpoints after B, by the index in the list of the breakpoint at the address: with one more at the end if none
-- is there (None), else the list stays
abbrev pub set_if : Option ℕ → List Breakpoint → LogicalAddress → List Breakpoint
set_if None points a = points ++ point_at a ∷ []
set_if (Some i) points a = points

-- the breakpoints after B: with one at the address, at the end, unless it is set already
abbrev pub with_point : List Breakpoint → LogicalAddress → List Breakpoint
with_point points a = set_if (position (is_point a) points) points a

-- the breakpoints after BC, by the index in the list of the breakpoint at the address: without that one; for None, all
-- of them
abbrev pub cleared : Option ℕ → List Breakpoint → List Breakpoint
cleared None points = points
cleared (Some i) points = remove points i

-- the breakpoints after BC: without the one at the address, if it is set
abbrev pub without_point : List Breakpoint → LogicalAddress → List Breakpoint
without_point points a = cleared (position (is_point a) points) points

-- what BL prints: the breakpoints, a line `segment:offset` each
abbrev pub points_text : List Breakpoint → List ℕ
points_text points = flat_map (λ p. address_text p.segment p.offset ++ 10 ∷ []) points
