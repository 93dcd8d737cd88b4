-- What each call does that gives what a machine holds, or the findings of its last checked run. `before` and `after`
-- are what C passes by reference, before the call and after it. The export of a name `n` is `dm_c_n`.
use Rattle.std.specs.Prelude.{◌≡◌, ◌⊎◌, ℕ, List, map, length, Option, Some, None}
use Rattle.dm_services.specs.state.State.{State}
use Rattle.dm_views.specs.declared.inventory.arena.ArenaBlock.{ArenaBlock}
use Rattle.dm_views.specs.declared.inventory.pages.PageHandle.{PageHandle}
use Rattle.dm_views.specs.declared.inventory.pages.Window.{Window}
use Rattle.dm_views.specs.declared.inventory.extended.ExtendedBlock.{ExtendedBlock}
use Rattle.dm_views.specs.declared.inventory.extended.UpperBlock.{UpperBlock}
use Rattle.dm_views.specs.declared.inventory.findings.FoundRecord.{FoundRecord}
use Rattle.dm_views.specs.inventory.Arena.{IsListedArena}
use Rattle.dm_views.specs.inventory.Pages.{truth_number, handle_records, window_records}
use Rattle.dm_views.specs.inventory.Extended.{extended_records, upper_records}
use Rattle.dm_views.specs.inventory.Findings.{record_of}
use Rattle.dm_host.specs.declared.refusal.Refusal.{Refusal}
use Rattle.dm_host.specs.declared.refusal.Refusal.TheVariants.{Memory}
use Rattle.dm_host.specs.Hosts.{Hosted, Shows, IsNotLoaded, IsNotListed}
use Rattle.dm_host.specs.ByHandle.{ReadsPage, IsPageUnread, ReadsBlock, IsBlockUnread}
use Rattle.dm_host.specs.Findings.{TellsFinding, IsUntold}
use Rattle.dm_c.specs.declared.calls.lists.ListEnd.{ListEnd}
use Rattle.dm_c.specs.calls.Statuses.{status_of}
use Rattle.dm_c.specs.calls.Calls.{IsDoneOrRefused, GivesItems}

-- ---- what a machine holds

-- how the lists of the arena's headers end, as C sees it: at the segment where one breaks, or whole (None)
abbrev pub end_of : Option ℕ → ListEnd
end_of None = record { destroyed = 0; at = 0 }
end_of (Some segment) = record { destroyed = 1; at = segment }

-- the records that Lists holds of the machine are copied to the front of the buffer, if they fit, and `wanted` is how
-- many they are; or the call is refused, and buffer and `wanted` stay
pub data GivesRecords {A : Type 0} (h : Hosted) (Lists : State → List A → Type 0) (Refused : Refusal →
    Type 0) (before after : List A) (wanted_before wanted status : ℕ) : Type 0 where
  listed : (records : List A) → Shows h (λ s. Lists s records) → GivesItems records before after wanted status →
      GivesRecords h Lists Refused before after wanted_before wanted status
  refused : (why : Refusal) → Refused why → status ≡ status_of why → after ≡ before → wanted ≡ wanted_before →
      GivesRecords h Lists Refused before after wanted_before wanted status

-- `dm_c_blocks`: the headers of the arena are copied to the front of the buffer, if they fit, `wanted` is how many they
-- are, and `end` is how their lists end; if no program is loaded or an allocation failed, nothing changes
pub data BlocksTo (h : Hosted) (before after : List ArenaBlock) (wanted_before wanted : ℕ) (end_before end : ListEnd)
    (status : ℕ) (g : Hosted) : Type 0 where
  listed : (records : List ArenaBlock) (broken : Option ℕ) →
      Shows h (λ s. IsListedArena s.upper s.memory records broken) → GivesItems records before after wanted status →
      end ≡ end_of broken → g ≡ h
      → BlocksTo h before after wanted_before wanted end_before end status g
  refused : (why : Refusal) → IsNotListed h why → status ≡ status_of why → after ≡ before → wanted ≡ wanted_before →
      end ≡ end_before → g ≡ h
      → BlocksTo h before after wanted_before wanted end_before end status g

-- `dm_c_page_handles`: the handles of expanded memory in use, by rising number
abbrev pub PageHandlesTo : Hosted → List PageHandle → List PageHandle → ℕ → ℕ → ℕ → Hosted → Type 0
PageHandlesTo h before after wanted_before wanted status g =
    GivesRecords h (λ s records. records ≡ handle_records s.ems) (IsNotListed h) before after wanted_before wanted
    status × (g ≡ h)

-- `dm_c_windows`: what the four windows of the page frame show
abbrev pub WindowsTo : Hosted → List Window → List Window → ℕ → ℕ → ℕ → Hosted → Type 0
WindowsTo h before after wanted_before wanted status g =
    GivesRecords h (λ s records. records ≡ window_records s.ems s.memory) (IsNotLoaded h) before after wanted_before
    wanted status × (g ≡ h)

-- `dm_c_extended_blocks`: the blocks of the handles of extended memory in use, by rising handle
abbrev pub ExtendedBlocksTo : Hosted → List ExtendedBlock → List ExtendedBlock → ℕ → ℕ → ℕ → Hosted → Type 0
ExtendedBlocksTo h before after wanted_before wanted status g =
    GivesRecords h (λ s records. records ≡ extended_records s.xms s.memory) (IsNotListed h) before after wanted_before
    wanted status × (g ≡ h)

-- `dm_c_upper_blocks`: the upper memory blocks of the extended memory driver, by rising segment
abbrev pub UpperBlocksTo : Hosted → List UpperBlock → List UpperBlock → ℕ → ℕ → ℕ → Hosted → Type 0
UpperBlocksTo h before after wanted_before wanted status g =
    GivesRecords h (λ s records. records ≡ upper_records s.xms) (IsNotListed h) before after wanted_before wanted
    status × (g ≡ h)

-- `dm_c_high_memory`: whether A20 is on, and whether the high memory area is taken (1 or 0); if no program is loaded,
-- nothing changes
abbrev pub HighMemoryTo : Hosted → ℕ → ℕ → ℕ → ℕ → ℕ → Hosted → Type 0
HighMemoryTo h a20_before a20 used_before used status g =
    IsDoneOrRefused status (Shows h (λ s. (a20 ≡ truth_number s.memory.a20) × (used ≡ truth_number s.xms.area)))
    (λ why. IsNotLoaded h why × (a20 ≡ a20_before) × (used ≡ used_before)) × (g ≡ h)

-- ---- bytes by handle

-- `dm_c_read_page`: bytes of a logical page of a handle of expanded memory fill the buffer; at a refusal it stays
abbrev pub ReadsPageTo : Hosted → ℕ → ℕ → ℕ → List ℕ → List ℕ → ℕ → Hosted → Type 0
ReadsPageTo h handle page offset before after status g =
    IsDoneOrRefused status (Shows h (λ s. ReadsPage s handle page offset before after))
    (λ why. IsPageUnread h handle page offset (length before) why × (after ≡ before)) × (g ≡ h)

-- `dm_c_read_block`: bytes of the block of a handle of extended memory fill the buffer; at a refusal it stays
abbrev pub ReadsBlockTo : Hosted → ℕ → ℕ → List ℕ → List ℕ → ℕ → Hosted → Type 0
ReadsBlockTo h handle offset before after status g =
    IsDoneOrRefused status (Shows h (λ s. ReadsBlock s handle offset before after))
    (λ why. IsBlockUnread h handle offset (length before) why × (after ≡ before)) × (g ≡ h)

-- ---- findings

-- `dm_c_findings`: the records of the findings that the report of the last checked run lists are copied to the front of
-- the buffer, if they fit, and `wanted` is how many they are; if an allocation failed (status 3), nothing changes
abbrev pub FindingsTo : Hosted → List FoundRecord → List FoundRecord → ℕ → ℕ → ℕ → Hosted → Type 0
FindingsTo h before after wanted_before wanted status g =
    (GivesItems (map record_of h.report.listed) before after wanted status ⊎ ((status ≡ status_of Memory) ×
    (after ≡ before) × (wanted ≡ wanted_before))) × (g ≡ h)

-- `dm_c_finding_counts`: how many errors and notes the last checked run had, and how many findings its report neither
-- lists nor counts as further occurrences of one that it lists
abbrev pub FindingCountsTo : Hosted → ℕ → ℕ → ℕ → ℕ → Hosted → Type 0
FindingCountsTo h errors notes omitted status g = (status ≡ 0) × (errors ≡ h.report.errors) ×
    (notes ≡ h.report.notes) × (omitted ≡ h.report.omitted) × (g ≡ h)

-- `dm_c_finding_line`: the line of finding k of that report is copied to the front of the buffer, if it fits, and
-- `wanted` is how many bytes it has; if the report lists no finding k, or an allocation failed, nothing changes
pub data FindingLineTo (h : Hosted) (k : ℕ) (before after : List ℕ) (wanted_before wanted status : ℕ)
    (g : Hosted) : Type 0 where
  told : (text : List ℕ) → TellsFinding h k text → GivesItems text before after wanted status → g ≡ h →
      FindingLineTo h k before after wanted_before wanted status g
  refused : (why : Refusal) → IsUntold h k why → status ≡ status_of why → after ≡ before → wanted ≡ wanted_before →
      g ≡ h → FindingLineTo h k before after wanted_before wanted status g
