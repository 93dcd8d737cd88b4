-- What the checker keeps of the headers that memory showed, and when memory still shows them. No definition of a
-- finding mentions it.
use Rattle.std.specs.Prelude.{◌≡◌, ℕ, ◌+◌, ◌*◌, ◌<◌, Bool, All, List, [], ◌∷◌, map, Option, Some, None, IfSome}
use Rattle.dm_space.specs.Memory.{Memory, peek}
use Rattle.dm_space.specs.EightBytes.{little}
use Rattle.dm_blocks.specs.declared.header.Header.{Header}
use Rattle.dm_checker.specs.declared.arena_copy.HeaderCopy.{HeaderCopy}
use Rattle.dm_checker.specs.declared.arena_copy.Broken.{Broken}
use Rattle.dm_checker.specs.declared.arena_copy.ArenaCopy.{ArenaCopy}
use Rattle.dm_checker.specs.Marking.{IsMarked}
use Rattle.dm_checker.specs.Shown.{IsShown}

-- ---- five bytes

-- the five bytes at segment:0, those of a header that stands there
abbrev pub five_at : Memory → ℕ → List ℕ
five_at m segment = map (λ k. peek m (16 * segment + k)) (0 ∷ 1 ∷ 2 ∷ 3 ∷ 4 ∷ [])

-- `bits` is the five bytes at segment:0 as a number, the first byte lowest
pub record IsBits (m : Memory) (segment bits : ℕ) : Type 0 where
  pub is : bits ≡ little (five_at m segment)
  pub bytes : (k : ℕ) → k < 5 → peek m (16 * segment + k) < 256

-- ---- headers

-- the header of a copy, without its bytes
abbrev pub header_of : HeaderCopy → Header
header_of w = w.header

-- the bytes kept of the header are those that memory has at its segment
abbrev pub IsHeaderCopy : Memory → HeaderCopy → Type 0
IsHeaderCopy m w = IsBits m w.header.segment w.bits

-- the segment where a list breaks; None if it does not
abbrev pub broken_at : Option Broken → Option ℕ
broken_at None = None
broken_at (Some b) = Some b.segment

-- if the list breaks, the bytes kept are those that memory has there
abbrev pub IsBrokenIn : Memory → Option Broken → Type 0
IsBrokenIn m broken = IfSome broken (λ b. IsBits m b.segment b.bits)

-- w is what memory m shows of the arena, and by which windows; `upper` is whether upper memory belongs to the arena
pub record IsArenaCopy (upper : Bool) (m : Memory) (w : ArenaCopy) : Type 0 where
  pub setting : w.upper ≡ upper
  pub windows : w.windows ≡ m.windows
  pub shown : IsShown upper m (record { headers = map header_of w.headers.items; broken = broken_at w.broken })
  pub headers : All (IsHeaderCopy m) w.headers.items
  pub there : IsBrokenIn m w.broken
  pub marked : IsMarked w.windows w.headers.items w.marks
