-- The records that `put_list` appends for a walk over a list of arena headers. No public contract mentions any of it.
use Rattle.std.specs.Prelude.{◌≡◌, ℕ, List, Option, Some, None, ◌++◌}
use Rattle.dm_blocks.specs.declared.header.Header.{Header}
use Rattle.dm_blocks.specs.Listing.{Walking, IsBehind, start_of}
use Rattle.dm_views.specs.declared.inventory.arena.ArenaBlock.{ArenaBlock}
use Rattle.dm_views.specs.declared.inventory.arena.Walked.{Walked}
use Rattle.dm_views.specs.declared.inventory.arena.Walked.TheVariants.{Over, Broken}
use Rattle.dm_views.specs.inventory.Arena.{IsWhole, IsCutShort}

-- the segment where a walk has found its list broken; None if it has come to the end
abbrev pub end_of : Walked → Option ℕ
end_of (Over v) = None
end_of (Broken at) = Some at

-- these are the records of the list that the walk w is at the start of; F are the headers of the list before it, if
-- any. The list is broken, or whole, and then the walk is at its end
abbrev pub AreWalked : Walking → List Header → ℕ → Walked → List ArenaBlock → Type 0
AreWalked w F list (Broken at) records = IsCutShort w.memory F (start_of w.second) list at records
AreWalked w F list (Over v) records = (v.memory ≡ w.memory) × (v.second ≡ w.second) × (v.at ≡ None) ×
    ((L : List Header) × IsWhole w.memory F (start_of w.second) list L records)

-- `new` is `old` with the records of the walk's list appended
abbrev pub TellsList : Walking → ℕ → Walked → List ArenaBlock → List ArenaBlock → Type 0
TellsList w list walked old new = (records : List ArenaBlock) × (new ≡ old ++ records) ×
    ((F : List Header) → IsBehind w.memory w.second F → AreWalked w F list walked records)
