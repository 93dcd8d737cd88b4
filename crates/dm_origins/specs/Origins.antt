-- Who allocated what there is, and who freed what is free, as a run shows it: the step, and the caller in the program;
-- and which processes ran.
-- Source: LIM EMS 4.0, section 2 (handles); XMS 3.0 (handles, upper memory blocks, high memory area, A20); MS-DOS
-- Programmer's Reference, "Arena header", functions 48h, 49h and 4Ah.
use Rattle.std.specs.Prelude.{ℕ, ◌+◌, ◌-◌, ◌/◌, ◌==◌, ◌&&◌, not, nat_lt, is_some, Bool, if◌then◌else◌, List, [], ◌∷◌, replicate, slice_get, slice_index_or, Option, Some, None}
use Rattle.std.specs.List.{list_any}
use Rattle.dm_space.specs.Memory.{linear}
use Rattle.dm_blocks.specs.declared.header.Header.{Header}
use Rattle.dm_ems.specs.Tables.{Tables}
use Rattle.dm_xms.specs.Tables as xms
use Rattle.dm_xms.specs.Calls.{slot}
use Rattle.dm_xms.specs.declared.tables.Upper.{Upper}
use Rattle.dm_findings.specs.declared.finding.Finding.{Finding}
use Rattle.dm_findings.specs.declared.finding.Finding.TheVariants.{FreeRead, FreeWritten, FreedTwice, NotFreed, Held}
use Rattle.dm_findings.specs.declared.finding.Kept.{Kept}
use Rattle.dm_findings.specs.declared.finding.Kept.TheVariants as kept
use Rattle.dm_findings.specs.declared.finding.Origin.{Origin}
use Rattle.dm_findings.specs.declared.processes.process.Process.{Process}
use Rattle.dm_origins.specs.declared.handles.Since.{Since}
use Rattle.dm_origins.specs.declared.handles.Since.TheVariants.{Unused, Used}
use Rattle.dm_origins.specs.declared.uppers.UpperSince.{UpperSince}

-- what is known: of each handle of expanded memory (from 0) and of extended memory (from 1), of the high memory area
-- and of A20 whether it is in use, and since when; the upper memory blocks that are, up to 64, and since when; of each
-- paragraph below 10000h, the last step that freed it; and the processes, in the order of their starts
pub record Known : Type 0 where
  pub handles : List Since
  pub blocks : List Since
  pub uppers : List (Option UpperSince)
  pub area : Since
  pub line : Since
  pub freed : List (Option Origin)
  pub processes : List Process

-- the list with each element changed by f, which takes its index, too; the first has index i
unfoldable pub each_from : {A : Type 0} → (ℕ → A → A) → ℕ → List A → List A
each_from f i [] = []
each_from f i (x ∷ xs) = f i x ∷ each_from f (i + 1) xs

-- ---- handles

-- whether a handle of expanded memory is in use
abbrev pub has_handle : Tables → ℕ → Bool
has_handle ems handle = is_some (slice_index_or ems.handles handle None)

-- whether handle `before + 1` of extended memory is in use; handles count from 1
abbrev pub has_block : xms.Tables → ℕ → Bool
has_block tables before = is_some (slot tables (before + 1))

-- what is known of a handle that is in use: what was known, or, if it was not in use, that it is since o
abbrev pub taken_handle : Option Origin → Since → Since
taken_handle o Unused = Used o
taken_handle o (Used p) = Used p

-- what is known of a handle, by whether it is in use after the step o, or, for None, before the run
abbrev pub seen_handle : Bool → Option Origin → Since → Since
seen_handle used o x = if used then taken_handle o x else Unused

-- what is known after a call of the expanded memory driver, which leaves these tables
abbrev pub with_handles : Known → Tables → Option Origin → Known
with_handles k ems o = record k { handles = each_from (λ h x. seen_handle (has_handle ems h) o x) 0 k.handles }

-- the step since which the upper memory block at a segment is in use; o if none is known there
unfoldable pub upper_origin : List (Option UpperSince) → Option Origin → ℕ → Option Origin
upper_origin [] o segment = o
upper_origin (None ∷ us) o segment = upper_origin us o segment
upper_origin (Some u ∷ us) o segment = if u.segment == segment then u.origin else upper_origin us o segment

-- what is known of an upper memory block: what was known of the one at its segment, or, if none was, that it is since o
abbrev pub upper_since : List (Option UpperSince) → Option Origin → Option Upper → Option UpperSince
upper_since us o None = None
upper_since us o (Some u) = Some (record { segment = u.segment; origin = upper_origin us o u.segment })

-- what is known after a call of the extended memory driver, which leaves these tables, and A20 on or off
abbrev pub with_extended_memory : Known → xms.Tables → Bool → Option Origin → Known
with_extended_memory k tables on o = record k {
  blocks = each_from (λ h x. seen_handle (has_block tables h) o x) 0 k.blocks;
  uppers = each_from (λ n x. upper_since k.uppers o (slice_get tables.uppers n)) 0 k.uppers;
  area = seen_handle tables.area o k.area;
  line = seen_handle on o k.line;
}

-- nothing is known but this process
unfoldable pub nothing_known : Process → Known
nothing_known p = record {
  handles = replicate 64 Unused;
  blocks = replicate 64 Unused;
  uppers = replicate 64 None;
  area = Unused;
  line = Unused;
  freed = replicate 0x10000 None;
  processes = p ∷ [];
}

-- what is known before a run: what is in use, and the process that is present
abbrev pub known_first : Tables → xms.Tables → Bool → Process → Known
known_first ems tables on p = with_extended_memory (with_handles (nothing_known p) ems None) tables on None

-- ---- memory of the arena

-- whether the block is free (owner 0), and the paragraph is its header or in its memory
abbrev pub covers : ℕ → Header → Bool
covers p b = (b.owner == 0) && not (nat_lt p b.segment) && not (nat_lt (b.segment + b.size) p)

-- whether the paragraph is the header or in the memory of a free block of the list
abbrev pub is_free_in : List Header → ℕ → Bool
is_free_in headers p = list_any (covers p) headers

-- the last step that freed the paragraph, after a step with the origin o that made a list of blocks of another: that
-- step if the paragraph is in a free block now, and was in none before
abbrev pub freed_in : List Header → List Header → Origin → ℕ → Option Origin → Option Origin
freed_in old new o p x = if is_free_in new p && not (is_free_in old p) then Some o else x

-- what is known after a call that made the list of blocks `new` of `old`
abbrev pub with_freed : Known → List Header → List Header → Origin → Known
with_freed k old new o = record k { freed = each_from (freed_in old new o) 0 k.freed }

-- ---- findings

-- the step since which a handle is in use; None if it is since before the run, or not in use
abbrev pub origin_since : Since → Option Origin
origin_since Unused = None
origin_since (Used o) = o

-- the step that freed the paragraph
abbrev pub of_paragraph : Known → ℕ → Option Origin
of_paragraph k p = slice_index_or k.freed p None

-- the step that allocated what is left or held, or turned A20 on
abbrev pub of_kept : Known → Kept → Option Origin
of_kept k (kept.Handle handle pages saved) = origin_since (slice_index_or k.handles handle Unused)
of_kept k (kept.Block handle kib locked) = origin_since (slice_index_or k.blocks (handle - 1) Unused)
of_kept k (kept.Upper segment) = upper_origin k.uppers None segment
of_kept k kept.Area = origin_since k.area
of_kept k kept.Line = origin_since k.line
of_kept k (kept.Window number) = None

-- the step that freed the memory which the finding is about, or allocated what is left or held; None if no step of the
-- run did, or if it is about something else. `a20` is that of the state before the finding's step
abbrev pub origin_of : Known → Bool → Finding → Option Origin
origin_of k a20 (FreeRead block segment offset) = of_paragraph k (linear a20 segment offset / 16)
origin_of k a20 (FreeWritten block segment offset) = of_paragraph k (linear a20 segment offset / 16)
origin_of k a20 (FreedTwice at) = of_paragraph k (at - 1)
origin_of k a20 (NotFreed k') = of_kept k k'
origin_of k a20 (Held k') = of_kept k k'
origin_of k a20 _ = None
