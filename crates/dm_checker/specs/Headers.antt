-- The findings about the headers of the arena after a step: overwritten, or mapped away. Bytes 0 to 4 of a header are
-- compared: its signature, owner and size. S is memory before the step, T memory after it.
-- Source: MS-DOS Programmer's Reference, "Arena header"; LIM EMS 4.0, section 2 (pages and windows).
use Rattle.std.specs.Prelude.{ℕ, ◌+◌, ◌*◌, ◌==◌, ◌&&◌, not, nat_lt, is_some, Bool, true, if◌then◌else◌, List, [], ◌∷◌, get_or, None}
use Rattle.dm_pool.specs.Blocks.{Blocks}
use Rattle.dm_space.specs.declared.place.Place.{Place}
use Rattle.dm_space.specs.declared.place.Place.TheVariants.{Low, Page, Rom, Nothing}
use Rattle.dm_space.specs.Memory.{Memory, place, byte_at, peek}
use Rattle.dm_blocks.specs.declared.header.Header.{Header}
use Rattle.dm_findings.specs.declared.finding.Contents.{Contents}
use Rattle.dm_findings.specs.declared.finding.Finding.{Finding}
use Rattle.dm_findings.specs.declared.finding.Finding.TheVariants.{Overwritten, MappedAway}

-- the signature, owner and size of a header, from its bytes 0 to 4; words have the low byte first
abbrev pub contents : (ℕ → ℕ) → Contents
contents byte = record { signature = byte 0; owner = byte 1 + 256 * byte 2; size = byte 3 + 256 * byte 4 }

-- the header that memory shows at a segment. Headers stand below 100000h, so A20 does not matter
abbrev pub shown_at : Memory → ℕ → Contents
shown_at m segment = contents (λ k. peek m (16 * segment + k))

-- what memory T has at the places of the header that S shows at the segment
abbrev pub kept_at : Memory → Memory → ℕ → Contents
kept_at S T segment = contents (λ k. byte_at T (place S (16 * segment + k)))

-- whether the two headers have the same signature, owner and size
abbrev pub same_contents : Contents → Contents → Bool
same_contents a b = (a.signature == b.signature) && (a.owner == b.owner) && (a.size == b.size)

-- whether the pool has a block with this number
abbrev pub is_live : Blocks → ℕ → Bool
is_live s block = nat_lt block 576 && is_some (get_or s.places block None)

-- whether the place still exists in memory: it is not in a page that was freed
abbrev pub is_there : Memory → Place → Bool
is_there m (Low a) = true
is_there m (Page block k) = is_live m.blocks block
is_there m (Rom k) = true
is_there m Nothing = true

-- the finding that a header has another signature, owner or size at its places after the step, whatever wrote it; none
-- if its page was freed
abbrev pub overwritten : Memory → Memory → Header → List Finding
overwritten S T b =
    if is_there T (place S (16 * b.segment)) && not (same_contents (kept_at S T b.segment) (shown_at S b.segment))
    then Overwritten b.segment (shown_at S b.segment) (kept_at S T b.segment) ∷ [] else []

-- the finding that a header can no longer be read at its segment: its page was freed, or its segment now shows other
-- bytes 0 to 4 than those at its places, since a window changed. If another page shows the same five bytes, nothing is
-- found
abbrev pub mapped_away : Memory → Memory → Header → List Finding
mapped_away S T b =
    if is_there T (place S (16 * b.segment)) && same_contents (kept_at S T b.segment) (shown_at T b.segment)
    then [] else MappedAway b.segment ∷ []
