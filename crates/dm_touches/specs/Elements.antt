-- Bytes and words in memory, by segment and offset.
-- Source: Intel 8086 Family User's Manual, "Memory" (words have the low byte first; offsets wrap).
use Rattle.std.specs.Prelude.{ℕ, List, [], ◌∷◌, ◌++◌, Bool, Option, Some, None}
use Rattle.dm_space.specs.declared.place.Place.{Place}
use Rattle.dm_space.specs.Memory.{Memory, linear, place}
use Rattle.dm_cpu.specs.Guest.{up}
use Rattle.dm_touches.specs.declared.elements.FarAddress.{FarAddress}
use Rattle.dm_touches.specs.declared.elements.Element.{Element}
use Rattle.dm_touches.specs.declared.elements.Element.TheVariants.{Byte, Word}
use Rattle.dm_touches.specs.declared.elements.Elements.{Elements}

-- the byte at segment:offset
abbrev pub far : ℕ → ℕ → FarAddress
far segment offset = record { segment = segment; offset = offset }

-- the linear address of a byte, by A20
abbrev pub linear_of : Bool → FarAddress → ℕ
linear_of a20 f = linear a20 f.segment f.offset

-- the place of a byte in memory
abbrev pub byte_place : Memory → FarAddress → Place
byte_place m f = place m (linear_of m.a20 f)

-- the bytes of an element; the second byte of a word is at the next offset, modulo 65,536
abbrev pub bytes_in : Element → List FarAddress
bytes_in (Byte segment offset) = far segment offset ∷ []
bytes_in (Word segment offset) = far segment offset ∷ far segment (up offset 1) ∷ []

-- the bytes of an element that may be missing
abbrev pub bytes_if : Option Element → List FarAddress
bytes_if None = []
bytes_if (Some e) = bytes_in e

-- the bytes of all elements, in their order
abbrev pub bytes_of : Elements → List FarAddress
bytes_of e = bytes_if e.first ++ bytes_if e.second ++ bytes_if e.third

-- no element
abbrev pub nothing : Elements
nothing = record { first = None; second = None; third = None }

-- one element, which may be missing
abbrev pub one_element : Option Element → Elements
one_element a = record { first = a; second = None; third = None }

-- two elements, each of which may be missing
abbrev pub two_elements : Option Element → Option Element → Elements
two_elements a b = record { first = a; second = b; third = None }

-- three elements, each of which may be missing
abbrev pub three : Option Element → Option Element → Option Element → Elements
three a b c = record { first = a; second = b; third = c }
