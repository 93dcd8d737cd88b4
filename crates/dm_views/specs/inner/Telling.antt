-- The text that `put_list` appends for a walk over a list of arena headers. No public contract mentions any of it.
use Rattle.std.specs.Prelude.{◌≡◌, ℕ, List, Option, Some, None, ◌++◌}
use Rattle.dm_blocks.specs.declared.header.Header.{Header}
use Rattle.dm_blocks.specs.Listing.{Walking, IsBehind, start_of}
use Rattle.dm_views.specs.Arena.{IsWhole, IsCutShort}

-- the text is the listing of the list that the walk w is at the start of; F are the headers of the list before it, if
-- any. The list is broken (None), or whole, and then the walk is at its end
abbrev pub IsWalkText : Walking → List Header → Option Walking → List ℕ → Type 0
IsWalkText w F None text = IsCutShort w.memory F (start_of w.second) text
IsWalkText w F (Some v) text = (v.memory ≡ w.memory) × (v.second ≡ w.second) × (v.at ≡ None) ×
    ((L : List Header) × IsWhole w.memory F (start_of w.second) L text)

-- `new` is `old` with the listing of the walk's list appended; `rest` is the walk at the end of its list, None if the
-- list is broken
abbrev pub TellsList : Walking → Option Walking → List ℕ → List ℕ → Type 0
TellsList w rest old new = (text : List ℕ) × (new ≡ old ++ text) × ((F : List Header) → IsBehind w.memory w.second F →
    IsWalkText w F rest text)
