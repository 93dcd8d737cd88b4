-- The lines of `dm check --json`: a line is one object of JSON. The members are this machine's own.
-- Source: RFC 8259 (The JavaScript Object Notation), sections 4 (objects), 6 (numbers) and 7 (strings).
use Rattle.std.specs.Prelude.{ℕ, ◌==◌, Bool, true, false, if◌then◌else◌, List, [], ◌∷◌, ◌++◌, Option, Some, None, codes, decimal}
use Rattle.std.specs.List.{flat_map}
use Rattle.json.specs.Print.{quoted}
use Rattle.dm_space.specs.Memory.{Memory, linear, peek}
use Rattle.dm_cpu.specs.declared.cpu.Cpu.{Cpu}
use Rattle.dm_cpu.specs.Guest.{up}
use Rattle.dm_services.specs.declared.state.stop.Stop.{Stop}
use Rattle.dm_services.specs.declared.state.stop.Stop.TheVariants as stop
use Rattle.dm_decode.specs.Texts.{text_of}
use Rattle.dm_views.specs.Digits.{address_text}
use Rattle.dm_findings.specs.declared.calls.Call.{Call}
use Rattle.dm_findings.specs.declared.calls.Call.TheVariants.{DivideError, Terminate, Dos, ExpandedMemory, Multiplex, ExtendedMemory, Interrupt}
use Rattle.dm_findings.specs.declared.finding.Contents.{Contents}
use Rattle.dm_findings.specs.declared.finding.Act.{Act}
use Rattle.dm_findings.specs.declared.finding.Act.TheVariants as act
use Rattle.dm_findings.specs.declared.finding.Finding.{Finding}
use Rattle.dm_findings.specs.declared.finding.Finding.TheVariants.{Overwritten, MappedAway, Destroyed, Whole, FreedTwice, Refused, NotAllocated, DivisionError, NotServed, Short, NotFreed, Held, FreeRead, FreeWritten, StackFreed, WindowLost, RomWritten, NothingWritten, TailWritten, OtherFreed, NotResized}
use Rattle.dm_findings.specs.declared.finding.Found.{Found}
use Rattle.dm_findings.specs.declared.finding.Origin.{Origin}
use Rattle.dm_findings.specs.declared.finding.Kept.{Kept}
use Rattle.dm_findings.specs.declared.finding.Kept.TheVariants as kept
use Rattle.dm_findings.specs.declared.report.Listed.{Listed}
use Rattle.dm_findings.specs.declared.sites.Site.{Site}
use Rattle.dm_findings.specs.declared.sites.Site.TheVariants.{At, Before}
use Rattle.dm_findings.specs.Calls.{call_of}
use Rattle.dm_findings.specs.Findings.{is_error}
use Rattle.dm_findings.specs.Report.{Reported}
use Rattle.dm_findings.specs.Sites.{site_of}
use Rattle.dm_reports.specs.Names.{call_text}
use Rattle.dm_reports.specs.Stops.{reason_text}
use Rattle.dm_reports.specs.Texts.{told_text, kind_text}

-- ---- members behind the first one of an object

-- the comma, the name of a member in quotes, and the colon
abbrev pub member_text : List ℕ → List ℕ
member_text name = codes ",\"" ++ name ++ codes "\":"

-- a member whose value is a string, with its escapes
abbrev pub string_member : List ℕ → List ℕ → List ℕ
string_member name text = member_text name ++ quoted text

-- a member whose value is a number
abbrev pub number_member : List ℕ → ℕ → List ℕ
number_member name n = member_text name ++ decimal n

-- a truth value
abbrev pub bool_text : Bool → List ℕ
bool_text b = if b then codes "true" else codes "false"

-- a member whose value is a truth value
abbrev pub bool_member : List ℕ → Bool → List ℕ
bool_member name b = member_text name ++ bool_text b

-- ---- addresses

-- an address: as a string, segment:offset in hexadecimal, and as two numbers, each with its name
abbrev pub address_members : List ℕ → List ℕ → List ℕ → ℕ → ℕ → List ℕ
address_members name first second segment offset =
    string_member name (address_text segment offset) ++ number_member first segment ++ number_member second offset

-- where in its code the program performed a step, as `at`, `cs` and `ip`; `before` is whether that is the return
-- address of a call
abbrev pub site_members : Site → List ℕ
site_members (At segment offset) = address_members (codes "at") (codes "cs") (codes "ip") segment offset
    ++ bool_member (codes "before") false
site_members (Before segment offset) = address_members (codes "at") (codes "cs") (codes "ip") segment offset
    ++ bool_member (codes "before") true

-- the byte that an instruction touches, as `address`, `segment` and `offset`
abbrev pub byte_members : ℕ → ℕ → List ℕ
byte_members segment offset = address_members (codes "address") (codes "segment") (codes "offset") segment offset

-- ---- what was performed

-- the number of the interrupt, and of the function, of those that the call has
abbrev pub number_members : Call → List ℕ
number_members DivideError = number_member (codes "interrupt") 0
number_members Terminate = number_member (codes "interrupt") 0x20
number_members (Dos number) = number_member (codes "interrupt") 0x21 ++ number_member (codes "function") number
number_members (ExpandedMemory number) = number_member (codes "interrupt") 0x67
    ++ number_member (codes "function") number
number_members Multiplex = number_member (codes "interrupt") 0x2F
number_members (ExtendedMemory number) = number_member (codes "function") number
number_members (Interrupt number) = number_member (codes "interrupt") number

-- a call: its text and its numbers
abbrev pub call_members : Call → List ℕ
call_members call = string_member (codes "call") (call_text call) ++ number_members call

-- what was performed in the step: a call, or the text of an instruction
abbrev pub act_members : Act → List ℕ
act_members (act.Call call) = call_members call
act_members (act.Instruction i next) = string_member (codes "instruction") (text_of i next)

-- ---- what was found

-- what a program has allocated at its end, in words with `_` between
abbrev pub kept_word : Kept → List ℕ
kept_word (kept.Handle handle pages saved) = codes "handle_kept"
kept_word (kept.Window window) = codes "window_kept"
kept_word (kept.Block handle kib locked) = codes "block_kept"
kept_word (kept.Upper at) = codes "upper_kept"
kept_word kept.Area = codes "area_kept"
kept_word kept.Line = codes "line_kept"

-- the kind of a finding, in a word or in words with `_` between
abbrev pub kind_word : Finding → List ℕ
kind_word (Overwritten at old new) = codes "overwritten"
kind_word (MappedAway at) = codes "mapped_away"
kind_word (Destroyed at) = codes "destroyed"
kind_word Whole = codes "valid"
kind_word (FreedTwice at) = codes "freed_twice"
kind_word (Refused code) = codes "refused"
kind_word (NotAllocated code) = codes "not_allocated"
kind_word DivisionError = codes "division_error"
kind_word NotServed = codes "not_served"
kind_word (Short asked largest) = codes "not_enough_memory"
kind_word (NotFreed k) = kept_word k
kind_word (Held k) = kept_word k
kind_word (FreeRead block segment offset) = codes "free_read"
kind_word (FreeWritten block segment offset) = codes "free_written"
kind_word (StackFreed block) = codes "stack_freed"
kind_word (WindowLost window segment offset) = codes "window_lost"
kind_word (RomWritten segment offset) = codes "rom_written"
kind_word (NothingWritten segment offset) = codes "no_memory_written"
kind_word (TailWritten at byte) = codes "header_byte_written"
kind_word (OtherFreed at owner) = codes "other_freed"
kind_word (NotResized asked) = codes "not_resized"

-- an object with the signature, owner and size of an arena header, as the member of this name
abbrev pub contents_member : List ℕ → Contents → List ℕ
contents_member name c =
    member_text name ++ codes "{\"signature\":" ++ decimal c.signature ++ number_member (codes "owner") c.owner
    ++ number_member (codes "size") c.size ++ codes "}"

-- a handle, a window or a segment, and what more there is of what a program has allocated
abbrev pub kept_members : Kept → List ℕ
kept_members (kept.Handle handle pages saved) = number_member (codes "handle") handle
    ++ number_member (codes "pages") pages ++ bool_member (codes "saved") saved
kept_members (kept.Window window) = number_member (codes "window") window
kept_members (kept.Block handle kib locked) = number_member (codes "handle") handle ++ number_member (codes "kib") kib
    ++ bool_member (codes "locked") locked
kept_members (kept.Upper at) = number_member (codes "block") at
kept_members kept.Area = []
kept_members kept.Line = []

-- what a finding is about: segments of headers and blocks, handles, counts and codes
abbrev pub detail_members : Finding → List ℕ
detail_members (Overwritten at old new) = number_member (codes "header") at ++ contents_member (codes "old") old
    ++ contents_member (codes "new") new
detail_members (MappedAway at) = number_member (codes "header") at
detail_members (Destroyed at) = number_member (codes "header") at
detail_members Whole = []
detail_members (FreedTwice at) = number_member (codes "block") at
detail_members (Refused code) = number_member (codes "code") code
detail_members (NotAllocated code) = number_member (codes "code") code
detail_members DivisionError = []
detail_members NotServed = []
detail_members (Short asked largest) = number_member (codes "code") 8 ++ number_member (codes "wanted") asked
    ++ number_member (codes "available") largest
detail_members (NotFreed k) = kept_members k
detail_members (Held k) = kept_members k
detail_members (FreeRead block segment offset) = number_member (codes "block") block ++ byte_members segment offset
detail_members (FreeWritten block segment offset) = number_member (codes "block") block ++ byte_members segment offset
detail_members (StackFreed block) = number_member (codes "block") block
detail_members (WindowLost window segment offset) = number_member (codes "window") window ++ byte_members segment offset
detail_members (RomWritten segment offset) = byte_members segment offset
detail_members (NothingWritten segment offset) = byte_members segment offset
detail_members (TailWritten at byte) = number_member (codes "header") at ++ number_member (codes "byte") byte
detail_members (OtherFreed at owner) = number_member (codes "block") at ++ number_member (codes "owner") owner
detail_members (NotResized asked) = number_member (codes "wanted") asked

-- the name of the step that turned on or allocated what is left allocated
abbrev pub kept_name : Kept → List ℕ
kept_name kept.Line = codes "turned_on_by"
kept_name _ = codes "allocated_by"

-- the name of the step that did something to what the finding is about
abbrev pub origin_name : Finding → List ℕ
origin_name (NotFreed k) = kept_name k
origin_name (Held k) = kept_name k
origin_name _ = codes "freed_by"

-- an object with the step that did it, and where in its code the program performed it; nothing if it is not known
abbrev pub origin_member : Finding → Option Origin → List ℕ
origin_member f None = []
origin_member f (Some o) = member_text (origin_name f) ++ codes "{\"step\":" ++ decimal o.step ++ site_members o.site
    ++ codes "}"

-- what was found and where: its kind, the step's number, the process, where in its code the program performed it, the
-- call or instruction, what the finding is about, which step allocated or freed that, and the words of the report
unfoldable pub found_members : Found → List ℕ
found_members f =
    string_member (codes "kind") (kind_word f.finding) ++ number_member (codes "step") f.step
    ++ number_member (codes "process") f.process ++ site_members f.site ++ act_members f.act
    ++ detail_members f.finding ++ origin_member f.finding f.origin ++ string_member (codes "text") (told_text f)

-- ---- lines

-- the beginning of a line: the brace, and the member that says what the line is
abbrev pub opening : List ℕ → List ℕ
opening word = codes "{\"type\":\"" ++ word ++ codes "\""

-- the end of a line
abbrev pub object_end : List ℕ
object_end = codes "}" ++ 10 ∷ []

-- the line of a finding: `error` or `note`, and what was found and where
unfoldable pub found_object : Found → List ℕ
found_object f = opening (kind_text (is_error f.finding)) ++ found_members f ++ object_end

-- the line about the further occurrences of a finding: how many they are, and the step of the last
unfoldable pub repeated_object : Listed → List ℕ
repeated_object l = opening (codes "again") ++ found_members l.found ++ number_member (codes "more") l.more
    ++ number_member (codes "last") l.last ++ object_end

-- the line about the further occurrences of a finding that the report lists; none if there are none
abbrev pub again_object : Listed → List ℕ
again_object l = if l.more == 0 then [] else repeated_object l

-- the line about findings that are left out: how many they are
abbrev pub left_out_object : ℕ → List ℕ
left_out_object n = opening (codes "omitted") ++ number_member (codes "findings") n ++ object_end

-- the line about the findings that the report leaves out; none if there are none
abbrev pub omitted_object : ℕ → List ℕ
omitted_object n = if n == 0 then [] else left_out_object n

-- what follows the lines of the findings: a line for each finding that occurs again; a line about those that are left
-- out, if there are any; and a line with the numbers of all errors and notes
unfoldable pub summary_objects : Reported → List ℕ
summary_objects r =
    flat_map again_object r.listed ++ omitted_object r.omitted
    ++ opening (codes "summary") ++ number_member (codes "errors") r.errors ++ number_member (codes "notes") r.notes
    ++ object_end

-- ---- stops

-- the two bytes at CS:IP, as two numbers
abbrev pub code_member : Memory → Cpu → List ℕ
code_member m c =
    member_text (codes "bytes") ++ codes "[" ++ decimal (peek m (linear m.a20 c.cs c.ip)) ++ codes ","
    ++ decimal (peek m (linear m.a20 c.cs (up c.ip 1))) ++ codes "]"

-- the call that the next step would perform; nothing for an instruction
abbrev pub next_members : Option Call → List ℕ
next_members None = []
next_members (Some call) = call_members call

-- what the next step would perform: the bytes at CS:IP that are no instruction, a call, or an instruction, of which
-- nothing is said
abbrev pub what_members : Stop → Memory → Cpu → List ℕ
what_members stop.Unlisted m c = code_member m c
what_members _ m c = next_members (call_of c)

-- the line about a run that stopped before the program ended: why, where in its code the program would have gone on,
-- and what the next step would perform
unfoldable pub stopped_object : Stop → Memory → Cpu → List ℕ
stopped_object why m c = opening (codes "stopped") ++ string_member (codes "reason") (reason_text why)
    ++ site_members (site_of m c) ++ what_members why m c ++ object_end

-- the line about the end of a run, by the memory and the registers then: the program's exit code, or why it stopped
abbrev pub end_object : Stop → Memory → Cpu → List ℕ
end_object (stop.Exited code) m c = opening (codes "exited") ++ number_member (codes "code") code ++ object_end
end_object stop.Steps m c = stopped_object stop.Steps m c
end_object stop.Halted m c = stopped_object stop.Halted m c
end_object stop.Unlisted m c = stopped_object stop.Unlisted m c
end_object stop.InputEnded m c = stopped_object stop.InputEnded m c
end_object stop.Destroyed m c = stopped_object stop.Destroyed m c
end_object stop.Memory m c = stopped_object stop.Memory m c
