-- When a finding repeats an earlier one: it is of the same kind and about the same thing, and was found where the
-- program performed the same. The contents of headers, the numbers of pages, KiB and paragraphs, and the
-- bytes that are touched may differ.
use Rattle.std.specs.Prelude.{ℕ, ◌==◌, ◌&&◌, Bool, false}
use Rattle.dm_findings.specs.declared.calls.Call.{Call}
use Rattle.dm_findings.specs.declared.calls.Call.TheVariants.{DivideError, Terminate, Dos, ExpandedMemory, Multiplex, ExtendedMemory, Interrupt}
use Rattle.dm_findings.specs.declared.sites.Site.{Site}
use Rattle.dm_findings.specs.declared.sites.Site.TheVariants.{At, Before}
use Rattle.dm_findings.specs.declared.finding.Act.{Act}
use Rattle.dm_findings.specs.declared.finding.Act.TheVariants as act
use Rattle.dm_findings.specs.declared.finding.Finding.{Finding}
use Rattle.dm_findings.specs.declared.finding.Finding.TheVariants.{Overwritten, MappedAway, Destroyed, Whole, FreedTwice, Refused, NotAllocated, DivisionError, NotServed, Short, NotFreed, Held, FreeRead, FreeWritten, StackFreed, WindowLost, RomWritten, NothingWritten, TailWritten, OtherFreed, NotResized}
use Rattle.dm_findings.specs.declared.finding.Found.{Found}
use Rattle.dm_findings.specs.declared.finding.Kept.{Kept}
use Rattle.dm_findings.specs.declared.finding.Kept.TheVariants as kept

-- ---- findings

-- which kind it is that something was left allocated: its place among the kinds of findings
abbrev pub not_freed_kind : Kept → ℕ
not_freed_kind (kept.Handle handle pages saved) = 19
not_freed_kind (kept.Window window) = 20
not_freed_kind (kept.Block handle kib locked) = 21
not_freed_kind (kept.Upper at) = 22
not_freed_kind kept.Area = 23
not_freed_kind kept.Line = 24

-- which kind it is that a resident program holds something: its place among the kinds of findings
abbrev pub held_kind : Kept → ℕ
held_kind (kept.Handle handle pages saved) = 25
held_kind (kept.Window window) = 26
held_kind (kept.Block handle kib locked) = 27
held_kind (kept.Upper at) = 28
held_kind kept.Area = 29
held_kind kept.Line = 30

-- the handle, window or segment of what is allocated; 0 for the high memory area and A20
abbrev pub kept_subject : Kept → ℕ
kept_subject (kept.Handle handle pages saved) = handle
kept_subject (kept.Window window) = window
kept_subject (kept.Block handle kib locked) = handle
kept_subject (kept.Upper at) = at
kept_subject kept.Area = 0
kept_subject kept.Line = 0

-- which kind of finding it is: its place among the kinds, from 0, what is held after what is left
abbrev pub kind_of : Finding → ℕ
kind_of (Overwritten at old new) = 0
kind_of (MappedAway at) = 1
kind_of (Destroyed at) = 2
kind_of Whole = 3
kind_of (FreedTwice at) = 4
kind_of (Refused code) = 5
kind_of (NotAllocated code) = 6
kind_of DivisionError = 7
kind_of (Short asked largest) = 8
kind_of NotServed = 9
kind_of (FreeRead block segment offset) = 10
kind_of (FreeWritten block segment offset) = 11
kind_of (StackFreed block) = 12
kind_of (WindowLost window segment offset) = 13
kind_of (RomWritten segment offset) = 14
kind_of (NothingWritten segment offset) = 15
kind_of (TailWritten at byte) = 16
kind_of (OtherFreed at owner) = 17
kind_of (NotResized asked) = 18
kind_of (NotFreed k) = not_freed_kind k
kind_of (Held k) = held_kind k

-- what the finding is about: the segment of a header or a block, a handle, a window, or an error code; 0 for a kind
-- that has none of them
abbrev pub subject_of : Finding → ℕ
subject_of (Overwritten at old new) = at
subject_of (MappedAway at) = at
subject_of (Destroyed at) = at
subject_of (FreedTwice at) = at
subject_of (Refused code) = code
subject_of (NotAllocated code) = code
subject_of (FreeRead block segment offset) = block
subject_of (FreeWritten block segment offset) = block
subject_of (StackFreed block) = block
subject_of (WindowLost window segment offset) = window
subject_of (TailWritten at byte) = at
subject_of (OtherFreed at owner) = at
subject_of (NotFreed k) = kept_subject k
subject_of (Held k) = kept_subject k
subject_of _ = 0

-- ---- places and acts

-- whether two places are the same
abbrev pub is_same_site : Site → Site → Bool
is_same_site (At s o) (At t p) = (s == t) && (o == p)
is_same_site (Before s o) (Before t p) = (s == t) && (o == p)
is_same_site (At s o) (Before t p) = false
is_same_site (Before s o) (At t p) = false

-- what is called: the place of the service, driver or interrupt among the calls, from 0
abbrev pub callee_of : Call → ℕ
callee_of DivideError = 0
callee_of Terminate = 1
callee_of (Dos number) = 2
callee_of (ExpandedMemory number) = 3
callee_of Multiplex = 4
callee_of (ExtendedMemory number) = 5
callee_of (Interrupt number) = 6

-- the number of the function that is called, or of an interrupt that is not served; 0 for a call that has none
abbrev pub function_number : Call → ℕ
function_number (Dos number) = number
function_number (ExpandedMemory number) = number
function_number (ExtendedMemory number) = number
function_number (Interrupt number) = number
function_number _ = 0

-- whether the same was performed, if it was at the same place: a call of the same function, or an instruction of the
-- same length
abbrev pub is_same_act : Act → Act → Bool
is_same_act (act.Call c) (act.Call d) = (callee_of c == callee_of d) && (function_number c == function_number d)
is_same_act (act.Instruction i next) (act.Instruction j other) = next == other
is_same_act (act.Call c) (act.Instruction j other) = false
is_same_act (act.Instruction i next) (act.Call d) = false

-- ---- repetitions

-- whether g repeats f
abbrev pub is_repeated : Found → Found → Bool
is_repeated f g =
    (kind_of f.finding == kind_of g.finding) && (subject_of f.finding == subject_of g.finding)
    && is_same_site f.site g.site && is_same_act f.act g.act
