-- The report of `dm check` in either form: as a text, or as objects of JSON, a line each.
use Rattle.std.specs.Prelude.{ℕ, Bool, if◌then◌else◌, List, ◌++◌}
use Rattle.std.specs.List.{flat_map}
use Rattle.dm_space.specs.Memory.{Memory}
use Rattle.dm_cpu.specs.declared.cpu.Cpu.{Cpu}
use Rattle.dm_services.specs.declared.state.stop.Stop.{Stop}
use Rattle.dm_findings.specs.declared.finding.Found.{Found}
use Rattle.dm_findings.specs.declared.report.Listed.{Listed}
use Rattle.dm_findings.specs.Report.{Reported}
use Rattle.dm_json.specs.declared.forms.Format.{Format}
use Rattle.dm_json.specs.declared.forms.Format.TheVariants.{Text, Json}
use Rattle.dm_json.specs.Objects.{found_object, summary_objects, end_object}
use Rattle.dm_json.specs.Processes.{process_objects}
use Rattle.dm_findings.specs.declared.processes.process.Process.{Process}
use Rattle.dm_reports.specs.Processes.{processes_text}
use Rattle.dm_reports.specs.Reports.{summary_text}
use Rattle.dm_reports.specs.Stops.{stopped_line}
use Rattle.dm_reports.specs.Texts.{found_line}

-- the form of a report: JSON if it is asked for, otherwise a text
abbrev pub report_form : Bool → Format
report_form json = if json then Json else Text

-- the line of a finding
abbrev pub found_in : Format → Found → List ℕ
found_in Text f = found_line f
found_in Json f = found_object f

-- the line of a finding that the report lists
abbrev pub line_in : Format → Listed → List ℕ
line_in form l = found_in form l.found

-- the lines of the findings that a report lists, in their order
abbrev pub lines_in : Format → List Listed → List ℕ
lines_in form ls = flat_map (line_in form) ls

-- what follows those lines: the lines about further occurrences, about what is left out, and of all errors and notes
abbrev pub summary_in : Format → Reported → List ℕ
summary_in Text r = summary_text r
summary_in Json r = summary_objects r

-- a report: a line for each finding that it lists, and what follows them
abbrev pub report_in : Format → Reported → List ℕ
report_in form r = lines_in form r.listed ++ summary_in form r

-- the lines about the processes of a run; none if there was one process alone
abbrev pub processes_in : Format → List Process → List ℕ
processes_in Text ps = processes_text ps
processes_in Json ps = process_objects ps

-- the line about the end of a run, by the memory and the registers then. A text has none for an exit
abbrev pub end_in : Format → Stop → Memory → Cpu → List ℕ
end_in Text why m c = stopped_line why m c
end_in Json why m c = end_object why m c
