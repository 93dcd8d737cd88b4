-- What the checker keeps of the headers while it walks them, and when memory still shows them.
use Rattle.std.specs.Prelude.{◌≡◌, ℕ, ◌+◌, ◌*◌, Bool, true, false, All, List, ◌++◌, map, slice_index, slice_index_or, Option, Some, None, IfSome, Result, Ok, Err}
use Rattle.dm_space.specs.Memory.{Memory, IsPage, place}
use Rattle.dm_blocks.specs.declared.header.Header.{Header}
use Rattle.dm_blocks.specs.Chain.{link_header, IsArenaBehind}
use Rattle.dm_blocks.specs.Listing.{Walking, IsBehind, start_of}
use Rattle.dm_findings.specs.declared.finding.Contents.{Contents}
use Rattle.dm_checker.specs.declared.arena_copy.HeaderCopy.{HeaderCopy}
use Rattle.dm_checker.specs.declared.arena_copy.Broken.{Broken}
use Rattle.dm_checker.specs.declared.arena_copy.ArenaCopy.{ArenaCopy}
use Rattle.dm_checker.specs.Shown.{Shown, IsShown, IsCut}
use Rattle.dm_checker.specs.Headers.{contents, kept_at, is_there}
use Rattle.dm_checker.specs.ArenaCopy.{IsBits, header_of, IsHeaderCopy, broken_at, IsBrokenIn}

-- the signature, owner and size of a header that stands in the page frame, at an index of the bytes of its pool block
abbrev pub contents_by : List ℕ → ℕ → Contents
contents_by bytes at = contents (λ k. slice_index bytes (at + k))

-- what memory T has at the places of the header that S shows at the segment; None if its page was freed
abbrev pub IsKept : Memory → Memory → ℕ → Option Contents → Type 0
IsKept S T segment None = is_there T (place S (16 * segment)) ≡ false
IsKept S T segment (Some c) = (is_there T (place S (16 * segment)) ≡ true) × (c ≡ kept_at S T segment)

-- what a copy has of the arena
abbrev pub shown_of : ArenaCopy → Shown
shown_of w = record { headers = map header_of w.headers.items; broken = broken_at w.broken }

-- memory m has the windows and the bytes that are kept in w, with the same setting `upper`; and its windows show pages
-- that are there
pub record IsSeen (upper : Bool) (m : Memory) (w : ArenaCopy) : Type 0 where
  pub setting : upper ≡ w.upper
  pub windows : m.windows ≡ w.windows
  pub pages : (k : ℕ) → IfSome (slice_index_or m.windows k None) (IsPage m)
  pub headers : All (IsHeaderCopy m) w.headers.items
  pub there : IsBrokenIn m w.broken

-- these are the headers of the list that the walk w is at the start of; F are the headers of the list before it, if
-- any. The list breaks at a segment (Err), or is whole, and then the walk is at its end
abbrev pub IsWalked : Walking → List Header → Result Walking ℕ → List Header → Type 0
IsWalked w F (Err at) headers = IsCut w.memory F (start_of w.second) headers at
IsWalked w F (Ok v) headers = (v.memory ≡ w.memory) × (v.second ≡ w.second) × (v.at ≡ None) ×
    IsArenaBehind w.memory F (start_of w.second) headers

-- `new` is `old` with the headers of the walk's list appended; `rest` is the walk at its end, or where the list breaks
pub record Collects (w : Walking) (rest : Result Walking ℕ) (old new : List HeaderCopy) : Type 0 where
  pub more : List HeaderCopy
  pub is : new ≡ old ++ more
  pub walked : (F : List Header) → IsBehind w.memory w.second F → IsWalked w F rest (map header_of more)
  pub copies : All (IsHeaderCopy w.memory) more

-- these are the headers that memory shows of the second list, that of upper memory, to its end or up to where it
-- breaks; F are the headers of the first list
abbrev pub IsSecond : Memory → List Header → Option Broken → List Header → Type 0
IsSecond m F None headers = IsArenaBehind m F link_header headers
IsSecond m F (Some b) headers = IsCut m F link_header headers b.segment × IsBits m b.segment b.bits

-- `new` is `old` with the headers of the second list, that of upper memory, appended
pub record CollectsSecond (m : Memory) (broken : Option Broken) (old new : List HeaderCopy) : Type 0 where
  pub more : List HeaderCopy
  pub is : new ≡ old ++ more
  pub shown : (F : List Header) → IsBehind m true F → IsSecond m F broken (map header_of more)
  pub copies : All (IsHeaderCopy m) more

-- `new` is `old` with all headers appended that memory shows of the arena
pub record CollectsAll (upper : Bool) (m : Memory) (broken : Option Broken) (old new : List HeaderCopy) : Type 0 where
  pub more : List HeaderCopy
  pub is : new ≡ old ++ more
  pub shown : IsShown upper m (record { headers = map header_of more; broken = broken_at broken })
  pub copies : All (IsHeaderCopy m) more
  pub there : IsBrokenIn m broken
