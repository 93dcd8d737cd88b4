-- The findings of a checked run as records: of which kind each is, where and when it was found, and what it is about.
use Rattle.std.specs.Prelude.{ℕ, Option, Some, None}
use Rattle.dm_findings.specs.declared.calls.Call.{Call}
use Rattle.dm_findings.specs.declared.calls.Call.TheVariants.{DivideError, Terminate, Dos, ExpandedMemory, Multiplex, ExtendedMemory, Interrupt}
use Rattle.dm_findings.specs.declared.sites.Site.{Site}
use Rattle.dm_findings.specs.declared.sites.Site.TheVariants.{At, Before}
use Rattle.dm_findings.specs.declared.finding.Act.{Act}
use Rattle.dm_findings.specs.declared.finding.Act.TheVariants as act
use Rattle.dm_findings.specs.declared.finding.Finding.{Finding}
use Rattle.dm_findings.specs.declared.finding.Finding.TheVariants.{Held}
use Rattle.dm_findings.specs.declared.finding.Kept.{Kept}
use Rattle.dm_findings.specs.declared.finding.Kept.TheVariants as kept
use Rattle.dm_findings.specs.declared.finding.Origin.{Origin}
use Rattle.dm_findings.specs.declared.report.Listed.{Listed}
use Rattle.dm_findings.specs.Findings.{is_error}
use Rattle.dm_findings.specs.Repeats as findings
use Rattle.dm_findings.specs.Repeats.{not_freed_kind}
use Rattle.dm_views.specs.declared.inventory.findings.Act as performed
use Rattle.dm_views.specs.declared.inventory.findings.CodePlace.{CodePlace}
use Rattle.dm_views.specs.declared.inventory.findings.FoundRecord.{FoundRecord}
use Rattle.dm_views.specs.inventory.Pages.{truth_number}
use Rattle.dm_views.specs.inventory.Details.{details_of}

-- ---- kinds

-- the kind of a finding, as a number: its place among the kinds, where what a resident program holds counts as left
-- allocated. C has these numbers (`mezguld_finding_kind`), `dm check --json` a word for each
abbrev pub kind_number : Finding → ℕ
kind_number (Held k) = not_freed_kind k
kind_number f = findings.kind_of f

-- ---- what was performed, and where

-- a call: by an interrupt alone (1), by an interrupt and the number of a function (2), or by a far call of the extended
-- memory driver with that of a function (3)
abbrev pub call_record : Call → performed.Act
call_record DivideError = record { how = 1; interrupt = 0; function = 0; next = 0 }
call_record Terminate = record { how = 1; interrupt = 0x20; function = 0; next = 0 }
call_record (Dos number) = record { how = 2; interrupt = 0x21; function = number; next = 0 }
call_record (ExpandedMemory number) = record { how = 2; interrupt = 0x67; function = number; next = 0 }
call_record Multiplex = record { how = 1; interrupt = 0x2F; function = 0; next = 0 }
call_record (ExtendedMemory number) = record { how = 3; interrupt = 0; function = number; next = 0 }
call_record (Interrupt number) = record { how = 1; interrupt = number; function = 0; next = 0 }

-- what was performed: an instruction (0), with the offset after it, or a call
abbrev pub act_of : Act → performed.Act
act_of (act.Instruction ins next) = record { how = 0; interrupt = 0; function = 0; next = next }
act_of (act.Call call) = call_record call

-- a place in the code of a program, and whether the instruction that was performed ends there
abbrev pub site_record : Site → CodePlace
site_record (At segment offset) = record { cs = segment; ip = offset; before = 0 }
site_record (Before segment offset) = record { cs = segment; ip = offset; before = 1 }

-- where something was allocated or freed; zeros where that is not known
abbrev pub origin_site : Option Origin → CodePlace
origin_site None = record { cs = 0; ip = 0; before = 0 }
origin_site (Some o) = site_record o.site

-- the step in which something was allocated or freed; 0 where that is not known
abbrev pub origin_step : Option Origin → ℕ
origin_step None = 0
origin_step (Some o) = o.step

-- ---- findings

-- the record of a finding that a report lists
abbrev pub record_of : Listed → FoundRecord
record_of f = record {
  step = f.found.step;
  more = f.more;
  last = f.last;
  origin_step = origin_step f.found.origin;
  kind = kind_number f.found.finding;
  is_error = truth_number (is_error f.found.finding);
  at = site_record f.found.site;
  origin_at = origin_site f.found.origin;
  act = act_of f.found.act;
  process = f.found.process;
  details = details_of f.found.finding;
}
