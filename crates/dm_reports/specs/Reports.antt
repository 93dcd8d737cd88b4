-- The text of the report of `dm check`. The form is this machine's own.
use Rattle.std.specs.Prelude.{ℕ, ◌==◌, if◌then◌else◌, List, [], ◌∷◌, ◌++◌, codes, decimal}
use Rattle.std.specs.List.{flat_map}
use Rattle.dm_findings.specs.declared.report.Listed.{Listed}
use Rattle.dm_findings.specs.Report.{Reported}
use Rattle.dm_reports.specs.Texts.{count_text, found_line, repeated_line}

-- the line of a finding that the report lists
abbrev pub listed_line : Listed → List ℕ
listed_line l = found_line l.found

-- the line about the further occurrences of a finding that the report lists; none if there are none
abbrev pub again_line : Listed → List ℕ
again_line l = if l.more == 0 then [] else repeated_line l

-- the line about findings that are left out: how many they are
abbrev pub left_out_line : ℕ → List ℕ
left_out_line n = codes "omitted: " ++ count_text n (codes "finding") ++ 10 ∷ []

-- the line about the findings that the report leaves out; none if there are none
abbrev pub omitted_line : ℕ → List ℕ
omitted_line n = if n == 0 then [] else left_out_line n

-- the lines of the findings that a report lists, in their order
abbrev pub lines_text : List Listed → List ℕ
lines_text ls = flat_map listed_line ls

-- what follows those lines: a line for each finding that occurs again; a line about those that are left out, if there
-- are any; and a line with the numbers of all errors and notes
unfoldable pub summary_text : Reported → List ℕ
summary_text r =
    flat_map again_line r.listed ++ omitted_line r.omitted
    ++ codes "errors: " ++ decimal r.errors ++ codes ", notes: " ++ decimal r.notes ++ 10 ∷ []

-- the text of a report: a line for each finding that it lists, and what follows them
unfoldable pub report_text : Reported → List ℕ
report_text r = lines_text r.listed ++ summary_text r
