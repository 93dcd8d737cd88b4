-- The findings about what a program has allocated at its end, by the tables and the map of memory: it left that, or, if
-- it stays resident, holds it.
-- Source: LIM EMS 4.0, section 2 (handles, pages, saved maps, windows); XMS 3.0 (handles, locks, upper memory blocks,
-- the high memory area, A20).
use Rattle.std.specs.Prelude.{ℕ, zero, suc, ◌+◌, ◌==◌, ◌&&◌, nat_lt, not, is_some, Bool, if◌then◌else◌, List, [], ◌∷◌, ◌++◌, slice_index_or, slice_get, Option, Some, None}
use Rattle.dm_space.specs.Memory.{Memory}
use Rattle.dm_ems.specs.declared.tables.Handle.{Handle}
use Rattle.dm_ems.specs.Tables.{Tables, page_count}
use Rattle.dm_xms.specs.declared.tables.Handle.{Handle as Block}
use Rattle.dm_xms.specs.declared.tables.Upper.{Upper}
use Rattle.dm_xms.specs.Tables as xms
use Rattle.dm_xms.specs.Calls.{slot}
use Rattle.dm_services.specs.state.State.{State}
use Rattle.dm_findings.specs.declared.finding.Finding.{Finding}
use Rattle.dm_findings.specs.declared.finding.Finding.TheVariants.{NotFreed, Held}
use Rattle.dm_findings.specs.declared.finding.Kept.{Kept}
use Rattle.dm_findings.specs.declared.finding.Kept.TheVariants as kept

-- the findings of f for the numbers 0 to n - 1, in their order; none if n is 0
unfoldable pub of_each : (ℕ → List Finding) → ℕ → List Finding
of_each f zero = []
of_each f (suc n) = of_each f n ++ f n

-- the finding about what a program has: it holds it if it stays resident, otherwise it left it
abbrev pub told : Bool → Kept → List Finding
told resident k = (if resident then Held k else NotFreed k) ∷ []

-- ---- expanded memory

-- the finding about a handle of expanded memory, with the number of its pages, which may be 0, and whether it has a
-- saved map. Handle 0 is always in use: there is a finding of it only if it has pages or a saved map
abbrev pub pages_kept : Bool → ℕ → ℕ → Bool → List Finding
pages_kept resident handle pages saved = if (handle == 0) && (pages == 0) && not saved then [] else
    told resident (kept.Handle handle pages saved)

-- what is found of a handle of expanded memory, by its entry: nothing if it is not in use (None)
abbrev pub if_in_use : Bool → Tables → ℕ → Option Handle → List Finding
if_in_use resident ems handle None = []
if_in_use resident ems handle (Some h) = pages_kept resident handle (page_count ems handle) (is_some h.saved)

-- what is found of the handle of expanded memory with this number
abbrev pub handle_kept : Bool → Tables → ℕ → List Finding
handle_kept resident ems handle = if_in_use resident ems handle (slice_index_or ems.handles handle None)

-- the finding that this window of the frame, from 0, still shows a page; none if it shows none
abbrev pub window_kept : Bool → Memory → ℕ → List Finding
window_kept resident m window = if is_some (slice_index_or m.windows window None) then
    told resident (kept.Window window) else []

-- ---- extended memory

-- the finding about the block of a handle of extended memory, by the handle's entry: its KiB, and whether it is locked;
-- none if the handle is not in use (None)
abbrev pub if_allocated : Bool → ℕ → Option Block → List Finding
if_allocated resident handle None = []
if_allocated resident handle (Some b) = told resident (kept.Block handle b.kib (nat_lt 0 b.locks))

-- what is found of handle `before + 1` of extended memory; handles count from 1
abbrev pub block_kept : Bool → xms.Tables → ℕ → List Finding
block_kept resident tables before = if_allocated resident (before + 1) (slot tables (before + 1))

-- the finding about an upper memory block, if there is one
abbrev pub if_given : Bool → Option Upper → List Finding
if_given resident None = []
if_given resident (Some u) = told resident (kept.Upper u.segment)

-- what is found of upper memory block k, from 0, if there is one
abbrev pub upper_kept : Bool → xms.Tables → ℕ → List Finding
upper_kept resident tables k = if_given resident (slice_get tables.uppers k)

-- the findings about the high memory area, if the program has it (`area`), and about A20, if it is on (`on`)
abbrev pub switches_kept : Bool → Bool → Bool → List Finding
switches_kept resident area on = (if area then told resident kept.Area else []) ++ (if on then told resident kept.Line
    else [])

-- ---- all of it: there are 64 handles of expanded and 64 of extended memory, and at most 64 upper memory blocks

-- all that is found of a program that has ended, or stays resident: handles of expanded memory, windows, blocks of
-- extended memory, upper memory blocks, the high memory area and A20
unfoldable pub leaks : Bool → State → List Finding
leaks resident s =
    of_each (handle_kept resident s.ems) 64 ++ of_each (window_kept resident s.memory) 4
    ++ of_each (block_kept resident s.xms) 64 ++ of_each (upper_kept resident s.xms) 64
    ++ switches_kept resident s.xms.area s.memory.a20
