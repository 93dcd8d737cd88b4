-- The texts of findings in the report of `dm check`. The form is this machine's own.
use Rattle.std.specs.Prelude.{ℕ, ◌==◌, Bool, if◌then◌else◌, List, [], ◌∷◌, ◌++◌, Option, Some, None, codes, decimal}
use Rattle.dm_decode.specs.Texts.{text_of}
use Rattle.dm_views.specs.Digits.{two_digits, four_digits, address_text}
use Rattle.dm_findings.specs.declared.finding.Contents.{Contents}
use Rattle.dm_findings.specs.declared.finding.Act.{Act}
use Rattle.dm_findings.specs.declared.finding.Act.TheVariants as act
use Rattle.dm_findings.specs.declared.finding.Finding.{Finding}
use Rattle.dm_findings.specs.declared.finding.Finding.TheVariants.{Overwritten, MappedAway, Destroyed, Whole, FreedTwice, Refused, NotAllocated, DivisionError, NotServed, Short, NotFreed, Held, FreeRead, FreeWritten, StackFreed, WindowLost, RomWritten, NothingWritten, TailWritten, OtherFreed, NotResized}
use Rattle.dm_findings.specs.declared.finding.Found.{Found}
use Rattle.dm_findings.specs.declared.finding.Origin.{Origin}
use Rattle.dm_findings.specs.declared.finding.Kept.{Kept}
use Rattle.dm_findings.specs.declared.finding.Kept.TheVariants as kept
use Rattle.dm_findings.specs.declared.report.Listed.{Listed}
use Rattle.dm_findings.specs.declared.sites.Site.{Site}
use Rattle.dm_findings.specs.declared.sites.Site.TheVariants.{At, Before}
use Rattle.dm_findings.specs.Findings.{is_error}
use Rattle.dm_reports.specs.Meanings.{meaning_text}
use Rattle.dm_reports.specs.Names.{call_text}

-- signature, owner and size of an arena header, in two, four and four hexadecimal digits with spaces between
abbrev pub contents_text : Contents → List ℕ
contents_text c = two_digits c.signature ++ codes " " ++ four_digits c.owner ++ codes " " ++ four_digits c.size

-- what follows the size of a block of extended memory: `, locked` if it is locked, otherwise nothing
abbrev pub lock_text : Bool → List ℕ
lock_text locked = if locked then codes ", locked" else []

-- the end of a word for n things: nothing for one, otherwise an s
abbrev pub ending_text : ℕ → List ℕ
ending_text n = if n == 1 then [] else codes "s"

-- a number of things in decimal, and what they are, by the word for one of them
abbrev pub count_text : ℕ → List ℕ → List ℕ
count_text n word = decimal n ++ codes " " ++ word ++ ending_text n

-- that a call failed, with the code and its meaning
abbrev pub refusal_text : Act → ℕ → List ℕ
refusal_text a code = codes "refused with code " ++ two_digits code ++ codes "h" ++ meaning_text a code

-- that a call failed for lack of memory: how many paragraphs it asked for, and the largest number available
abbrev pub short_text : ℕ → ℕ → List ℕ
short_text asked largest = codes "refused with code 08h, not enough memory: " ++ count_text asked (codes "paragraph")
    ++ codes " wanted, " ++ decimal largest ++ codes " available"

-- that an instruction reads or writes a byte of a free block: the verb, the byte, and the block's segment
abbrev pub free_text : List ℕ → ℕ → ℕ → ℕ → List ℕ
free_text verb block segment offset = verb ++ address_text segment offset ++ codes " in the free block at "
    ++ four_digits block

-- what follows the pages of a handle of expanded memory: `, map not restored` if it has a saved map, otherwise nothing
abbrev pub map_text : Bool → List ℕ
map_text saved = if saved then codes ", map not restored" else []

-- what a program has allocated at its end
abbrev pub kept_text : Kept → List ℕ
kept_text (kept.Handle handle pages saved) = codes "EMS handle " ++ decimal handle ++ codes ": "
    ++ count_text pages (codes "page") ++ codes " not freed" ++ map_text saved
kept_text (kept.Window window) = codes "window " ++ decimal window ++ codes " still mapped"
kept_text (kept.Block handle kib locked) = codes "XMS handle " ++ decimal handle ++ codes ": " ++ decimal kib
    ++ codes " KiB not freed" ++ lock_text locked
kept_text (kept.Upper at) = codes "upper memory block at " ++ four_digits at ++ codes " not freed"
kept_text kept.Area = codes "HMA not released"
kept_text kept.Line = codes "A20 left on"

-- what was found in a step that performed a, in words
abbrev pub finding_text : Act → Finding → List ℕ
finding_text a (Overwritten at old new) = codes "header at " ++ four_digits at ++ codes " overwritten: "
    ++ contents_text old ++ codes " became " ++ contents_text new
finding_text a (MappedAway at) = codes "header at " ++ four_digits at ++ codes " mapped away"
finding_text a (Destroyed at) = codes "block list destroyed at " ++ four_digits at
finding_text a Whole = codes "block list valid again"
finding_text a (FreedTwice at) = codes "block at " ++ four_digits at ++ codes " freed twice"
finding_text a (Refused code) = refusal_text a code
finding_text a (NotAllocated code) = refusal_text a code
finding_text a DivisionError = codes "division error ended the process"
finding_text a NotServed = codes "not served"
finding_text a (Short asked largest) = short_text asked largest
finding_text a (NotFreed k) = kept_text k
finding_text a (Held k) = codes "kept resident: " ++ kept_text k
finding_text a (FreeRead block segment offset) = free_text (codes "reads ") block segment offset
finding_text a (FreeWritten block segment offset) = free_text (codes "writes ") block segment offset
finding_text a (StackFreed block) = codes "the stack is in the free block at " ++ four_digits block
finding_text a (WindowLost window segment offset) = codes "writes " ++ address_text segment offset
    ++ codes " in window " ++ decimal window ++ codes ", which shows no page"
finding_text a (RomWritten segment offset) = codes "writes " ++ address_text segment offset ++ codes " in the ROM"
finding_text a (NothingWritten segment offset) = codes "writes " ++ address_text segment offset
    ++ codes ", where there is no memory"
finding_text a (TailWritten at byte) = codes "byte " ++ decimal byte ++ codes " of the header at " ++ four_digits at
    ++ codes " written"
finding_text a (OtherFreed at owner) = codes "block at " ++ four_digits at ++ codes " of process " ++ four_digits owner
    ++ codes " freed"
finding_text a (NotResized asked) = codes "block not resized to " ++ count_text asked (codes "paragraph")

-- the text of what was performed in the step: a call, or an instruction
abbrev pub act_text : Act → List ℕ
act_text (act.Call call) = call_text call
act_text (act.Instruction i next) = text_of i next

-- the first word of a finding's line: `error` or `note`
abbrev pub kind_text : Bool → List ℕ
kind_text error = if error then codes "error" else codes "note"

-- where in its code the program performed the step: the address of the instruction or of the INT; with `before`, the
-- return address of a call that was made otherwise
abbrev pub site_text : Site → List ℕ
site_text (At segment offset) = address_text segment offset
site_text (Before segment offset) = codes "before " ++ address_text segment offset

-- what a step did to what is left allocated: it turned A20 on, and allocated the rest
abbrev pub kept_verb : Kept → List ℕ
kept_verb kept.Line = codes "turned on"
kept_verb _ = codes "allocated"

-- what a step did to what the finding is about: it allocated what is left allocated, or turned it on, and freed
-- memory
abbrev pub origin_verb : Finding → List ℕ
origin_verb (NotFreed k) = kept_verb k
origin_verb (Held k) = kept_verb k
origin_verb _ = codes "freed"

-- by which step, and where, that was done; nothing if it is not known
abbrev pub origin_text : Finding → Option Origin → List ℕ
origin_text f None = []
origin_text f (Some o) = codes ", " ++ origin_verb f ++ codes " by step " ++ decimal o.step ++ codes ", "
    ++ site_text o.site

-- what was found, in words, and which step allocated or freed what it is about
abbrev pub told_text : Found → List ℕ
told_text f = finding_text f.act f.finding ++ origin_text f.finding f.origin

-- what was found and where: the step's number, where in its code the program performed it, the call or instruction,
-- what was found, and which step allocated or freed what it is about
unfoldable pub found_text : Found → List ℕ
found_text f =
    codes "step " ++ decimal f.step ++ codes ", " ++ site_text f.site ++ codes " " ++ act_text f.act ++ codes ": "
    ++ told_text f

-- the line of a finding: error or note, and what was found and where
unfoldable pub found_line : Found → List ℕ
found_line f = kind_text (is_error f.finding) ++ codes ": " ++ found_text f ++ 10 ∷ []

-- the line about the further occurrences of a finding: how many they are, and the step of the last
unfoldable pub repeated_line : Listed → List ℕ
repeated_line l = codes "again: " ++ found_text l.found ++ codes ": " ++ decimal l.more
    ++ codes " more, the last at step " ++ decimal l.last ++ 10 ∷ []
