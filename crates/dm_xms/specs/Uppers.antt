-- Upper memory blocks (XMS 3.0, functions 10h to 12h): paragraphs from segment D000h to DFFFh. They lie in RAM, not
-- in the pool, and have no headers in memory: a call changes the table of these blocks alone, and nothing if it fails.
use Rattle.std.specs.Prelude.{ℕ, ◌+◌, ◌-◌, max, Bool, nat_lt, ◌==◌, ◌||◌, if◌then◌else◌, List, length, map, position, count_by, insert, remove, slice_get, slice_set, Option, Some, None, Result, Ok, Err}
use Rattle.dm_pool.specs.declared.extent.Extent.{Extent}
use Rattle.dm_pool.specs.Gaps.{gaps, largest, lowest}
use Rattle.dm_xms.specs.declared.tables.Upper.{Upper}
use Rattle.dm_xms.specs.declared.uppers.UpperRefusal.{UpperRefusal}
use Rattle.dm_xms.specs.declared.uppers.UpperRefusal.TheVariants as refusal
use Rattle.dm_xms.specs.Tables.{Tables}
use Rattle.dm_xms.specs.Calls.{need}

-- the first segment of upper memory
abbrev pub first_segment : ℕ
first_segment = 0xD000

-- the number of paragraphs of upper memory: 64 KiB
abbrev pub all_paragraphs : ℕ
all_paragraphs = 0x1000

-- the number of paragraphs that 10h or 12h asks for, where 0 counts as 1
abbrev pub at_least_one : ℕ → ℕ
at_least_one n = max 1 n

-- where the blocks lie among the paragraphs of upper memory, as extents of a pool
abbrev pub extents_of : List Upper → List (Option Extent)
extents_of us = map (λ (u : Upper). Some (record { base = u.segment - first_segment; units = u.paragraphs })) us

-- the number of paragraphs of the largest gap between the blocks; 0 if there is none
abbrev pub largest_upper : List Upper → ℕ
largest_upper us = largest (gaps (extents_of us) all_paragraphs)

-- the first paragraph of the lowest gap that holds n paragraphs, counted from D000h; None if no gap does
abbrev pub lowest_upper : List Upper → ℕ → Option ℕ
lowest_upper us n = lowest (extents_of us) all_paragraphs n

-- the block begins below this segment
abbrev pub is_below : ℕ → Upper → Bool
is_below segment u = nat_lt u.segment segment

-- the blocks, by rising segment, with one more at its place among them
abbrev pub inserted : Upper → List Upper → List Upper
inserted u us = insert us (count_by (is_below u.segment) us) u

-- the tables with other upper memory blocks
abbrev pub with_uppers : Tables → List Upper → Tables
with_uppers xms us = record xms { uppers = us }

-- a new block of n paragraphs at paragraph p, counted from D000h, which a search for a gap has found; with None an
-- error that has the size of the largest gap
abbrev pub new_upper : Tables → ℕ → Option ℕ → Result (Upper × Tables) UpperRefusal
new_upper xms n None = Err (refusal.Smaller (largest_upper xms.uppers))
new_upper xms n (Some p) =
    let u : Upper = record { segment = first_segment + p; paragraphs = n } in
    Ok (u, with_uppers xms (inserted u xms.uppers))

-- 10h: a new block of n paragraphs, at least 1, at the low end of the lowest gap that holds it; the block is the
-- result. Fails where no paragraph is free or there are 64 blocks; else where no gap holds it, with the paragraphs of
-- the largest one
unfoldable pub request_upper : Tables → ℕ → Result (Upper × Tables) UpperRefusal
request_upper xms n =
    if (length xms.uppers == 64) || (largest_upper xms.uppers == 0) then Err refusal.NoneFree else
    new_upper xms (at_least_one n) (lowest_upper xms.uppers (at_least_one n))

-- the block begins at this segment
abbrev pub begins_at : ℕ → Upper → Bool
begins_at segment u = u.segment == segment

-- 11h: the block that begins at a segment is freed; an error if none begins there
unfoldable pub release_upper : Tables → ℕ → Result (Unit {0} × Tables) UpperRefusal
release_upper xms segment =
    need (position (begins_at segment) xms.uppers) refusal.Unknown (λ k.
    Ok (tt, with_uppers xms (remove xms.uppers k)))

-- the segment where the block after one that 12h resizes begins; E000h, the end of upper memory, if there is none
abbrev pub begin_or_end : Option Upper → ℕ
begin_or_end None = first_segment + all_paragraphs
begin_or_end (Some u) = u.segment

-- the number of paragraphs that block k, which begins at a segment, can have there
abbrev pub room : List Upper → ℕ → ℕ → ℕ
room us k segment = begin_or_end (slice_get us (k + 1)) - segment

-- 12h: the block that begins at a segment gets n paragraphs, at least 1, where it lies. Fails where no block begins
-- there; else where there is less room, with the paragraphs that it can have
unfoldable pub resize_upper : Tables → ℕ → ℕ → Result (Unit {0} × Tables) UpperRefusal
resize_upper xms segment n =
    need (position (begins_at segment) xms.uppers) refusal.Unknown (λ k.
    if nat_lt (room xms.uppers k segment) (at_least_one n) then Err (refusal.Smaller (room xms.uppers k segment)) else
    Ok (tt, with_uppers xms (slice_set xms.uppers k (record { segment = segment; paragraphs = at_least_one n }))))

-- the error code in BL of an error (XMS 3.0, error code index)
unfoldable pub code_of : UpperRefusal → ℕ
code_of (refusal.Smaller n) = 0xB0
code_of refusal.NoneFree = 0xB1
code_of refusal.Unknown = 0xB2
