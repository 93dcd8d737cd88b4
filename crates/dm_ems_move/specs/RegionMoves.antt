-- Regions of memory that are moved or exchanged (LIM EMS 4.0, function 24; INT 67h function 57h). They overlap where
-- they share a byte of memory or ROM. Errors are tried in the order in which they are written.
use Rattle.std.specs.Prelude.{ℕ, ◌+◌, ◌*◌, Bool, true, false, nat_lt, nat_le, ◌==◌, if◌then◌else◌, [], slice_index_or, None, Result, Ok, Err}
use Rattle.dm_space.specs.Memory.{Memory}
use Rattle.dm_space.specs.EightBytes.{byte_after}
use Rattle.dm_space.specs.declared.moves.spans.SpanKind.{SpanKind}
use Rattle.dm_space.specs.declared.moves.spans.SpanKind.TheVariants.{Linear, Pages, Single}
use Rattle.dm_space.specs.moves.Spans.{Span, span, span_moved, spans_exchanged}
use Rattle.dm_space.specs.moves.Overlaps.{overlap}
use Rattle.dm_ems.specs.declared.status.Status.{Status}
use Rattle.dm_ems.specs.declared.status.Status.TheVariants.{UnknownHandle, NoSuchPage, PastPages, KindsOverlap, OffsetPastPage, TooLong, ExchangeOverlaps, UnknownKind, PastMemory}
use Rattle.dm_ems.specs.Tables.{Tables, Expanded, blocks_of, page_count}
use Rattle.dm_ems.specs.Calls.{need, with_memory}
use Rattle.dm_ems_move.specs.declared.description.Description.{Description}
use Rattle.dm_ems_move.specs.declared.region_moves.Moved.{Moved}
use Rattle.dm_ems_move.specs.declared.region_moves.Moved.TheVariants as moved_is
use Rattle.dm_space.specs.moves.Buffers.{word_after}
use Rattle.dm_ems_move.specs.Steps.{and_then}

-- ---- the structure at segment:offset: the length, a double word; then source and destination, seven bytes each

-- the number of bytes to be moved or exchanged: the double word at segment:offset
abbrev pub length_at : Memory → ℕ → ℕ → ℕ
length_at m segment offset = word_after m segment offset 0 + 65536 * word_after m segment offset 2

-- the description of a region, seven bytes, k bytes after segment:offset: its type, a handle, an offset, and a
-- segment or a logical page
abbrev pub described : Memory → ℕ → ℕ → ℕ → Description
described m segment offset k = record {
  kind = byte_after m segment offset k;
  handle = word_after m segment offset (k + 1);
  offset = word_after m segment offset (k + 3);
  page = word_after m segment offset (k + 5);
}

-- ---- regions

-- the region of n bytes of conventional memory that starts at the described segment:offset; an error if it ends after
-- FFFFFh
abbrev pub conventional : Description → ℕ → Result Span Status
conventional d n = if nat_lt 0x100000 (d.page * 16 + d.offset + n) then Err PastMemory else
    Ok (span Linear (d.page * 16 + d.offset) [])

-- the region of n bytes of a handle's pages that starts at the described logical page and offset; an error if there
-- is no such handle or page, if the offset is not within a page, or if the handle's pages end first
abbrev pub expanded_region : Tables → Description → ℕ → Result Span Status
expanded_region ems d n =
    need (slice_index_or ems.handles d.handle None) UnknownHandle (λ s.
    if nat_lt 0x3FFF d.offset then Err OffsetPastPage else
    if nat_le (page_count ems d.handle) d.page then Err NoSuchPage else
    if nat_lt (page_count ems d.handle * 0x4000) (d.page * 0x4000 + d.offset + n) then Err PastPages else
    Ok (span Pages (d.page * 0x4000 + d.offset) (blocks_of ems d.handle)))

-- the region of n bytes that a description means: type 0 is conventional memory, type 1 pages of a handle, another an
-- error
unfoldable pub region_of : Tables → Description → ℕ → Result Span Status
region_of ems d n =
    if nat_lt 1 d.kind then Err UnknownKind else
    if d.kind == 0 then conventional d n else expanded_region ems d n

-- the source and the destination, of n bytes each, that the structure at segment:offset describes; the source's
-- errors come first
unfoldable pub regions_of : Expanded → ℕ → ℕ → ℕ → Result (Span × Span) Status
regions_of x segment offset n =
    and_then (region_of x.ems (described x.memory segment offset 4) n) (λ from.
    and_then (region_of x.ems (described x.memory segment offset 11) n) (λ to. Ok (from, to)))

-- the region is one of conventional memory
abbrev pub is_linear : SpanKind → Bool
is_linear Linear = true
is_linear Pages = false
is_linear Single = false

-- one region is of conventional memory, and the other is not
abbrev pub are_mixed : Span → Span → Bool
are_mixed from to = if is_linear from.kind then (if is_linear to.kind then false else true) else is_linear to.kind

-- ---- the calls

-- n bytes of `from` are copied to `to`, all read before the first is written. The result says whether the regions
-- overlap; where they do and are of different types, it is an error. The tables stay
unfoldable pub move_between : Expanded → ℕ → Span → Span → Result (Moved × Expanded) Status
move_between x n from to =
    if overlap x.memory from to n
    then (if are_mixed from to then Err KindsOverlap else Ok (
      moved_is.Overlapping,
      with_memory x (span_moved x.memory from to n),
    ))
    else Ok (moved_is.Apart, with_memory x (span_moved x.memory from to n))

-- two regions of n bytes exchange their bytes; an error where they overlap. The tables stay
unfoldable pub exchange_between : Expanded → ℕ → Span → Span → Result (Unit {0} × Expanded) Status
exchange_between x n from to =
    if overlap x.memory from to n
    then (if are_mixed from to then Err KindsOverlap else Err ExchangeOverlaps)
    else Ok (tt, with_memory x (spans_exchanged x.memory from to n))

-- 57h, AL = 0: the source is copied to the destination, as the structure at segment:offset describes them; the result
-- says whether they overlap. For 0 bytes nothing changes, whatever else the structure says; over 1 MiB is an error
unfoldable pub move_region : Expanded → ℕ → ℕ → Result (Moved × Expanded) Status
move_region x segment offset =
    if length_at x.memory segment offset == 0 then Ok (moved_is.Apart, x) else
    if nat_lt 0x100000 (length_at x.memory segment offset) then Err TooLong else
    and_then (regions_of x segment offset (length_at x.memory segment offset))
    (λ r. move_between x (length_at x.memory segment offset) r.0 r.1)

-- 57h, AL = 1: the regions that the structure at segment:offset describes exchange their bytes; an error where they
-- overlap. For 0 bytes nothing changes, whatever else the structure says; over 1 MiB is an error
unfoldable pub exchange_region : Expanded → ℕ → ℕ → Result (Unit {0} × Expanded) Status
exchange_region x segment offset =
    if length_at x.memory segment offset == 0 then Ok (tt, x) else
    if nat_lt 0x100000 (length_at x.memory segment offset) then Err TooLong else
    and_then (regions_of x segment offset (length_at x.memory segment offset)) (λ r. exchange_between x
    (length_at x.memory segment offset) r.0 r.1)

-- the status byte in AH after a move: 0, or 92h where the regions overlap
abbrev pub moved_code : Moved → ℕ
moved_code moved_is.Apart = 0
moved_code moved_is.Overlapping = 0x92
