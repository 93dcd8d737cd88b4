-- The report of `dm check`: the findings in the order in which they happened, each once, how often each is repeated,
-- and how many there are.
use Rattle.std.specs.Prelude.{ℕ, suc, ◌-◌, ◌^◌, ◌&&◌, min, not, nat_lt, Bool, if◌then◌else◌, List, [], ◌∷◌, ◌++◌, count_by}
use Rattle.std.specs.List.{list_any}
use Rattle.dm_findings.specs.declared.finding.Found.{Found}
use Rattle.dm_findings.specs.declared.report.Listed.{Listed}
use Rattle.dm_findings.specs.Findings.{is_an_error, is_a_note}
use Rattle.dm_findings.specs.Repeats.{is_repeated}

-- how many of the findings pass the test `is`, at most 2^64 - 1
abbrev pub bounded_count : (Found → Bool) → List Found → ℕ
bounded_count is fs = min (count_by is fs) (2 ^ 64 - 1)

-- ---- one finding

-- the step of the last of the findings that passes the test; `step` if none does
abbrev pub last_step : ℕ → (Found → Bool) → List Found → ℕ
last_step step is [] = step
last_step step is (f ∷ fs) = last_step (if is f then f.step else step) is fs

-- the line of a finding f, by those after it: how many of them repeat it, and the step of the last that does, or its
-- own
abbrev pub line_of : Found → List Found → Listed
line_of f fs = record { found = f; more = bounded_count (is_repeated f) fs; last = last_step f.step (is_repeated f) fs }

-- ---- which findings are listed

-- how many findings of this one's kind (errors or notes) are listed
abbrev pub count_like : Found → List Found → ℕ
count_like f seen = if is_an_error f then count_by is_an_error seen else count_by is_a_note seen

-- whether the finding repeats one of those that are listed
abbrev pub repeats : List Found → Found → Bool
repeats seen f = list_any (λ g. is_repeated g f) seen

-- whether the finding is listed behind those that are listed already: it repeats none of them, and fewer than 100 of
-- its kind are listed
abbrev pub is_listed : List Found → Found → Bool
is_listed seen f = not (repeats seen f) && nat_lt (count_like f seen) 100

-- the lines of the findings behind those that are listed already, in the order of the list
abbrev pub lines_from : List Found → List Found → List Listed
lines_from seen [] = []
lines_from seen (f ∷ fs) = if is_listed seen f then line_of f fs ∷ lines_from (seen ++ f ∷ []) fs else
    lines_from seen fs

-- how many of the findings are neither listed nor repeat one that is, since 100 of their kind are listed
abbrev pub left_out : List Found → List Found → ℕ
left_out seen [] = 0
left_out seen (f ∷ fs) =
    if is_listed seen f then left_out (seen ++ f ∷ []) fs else
    if repeats seen f then left_out seen fs else suc (left_out seen fs)

-- ---- the report

-- a report: the findings that it lists, in the order in which they happened, the numbers of all errors and all notes,
-- and how many findings it neither lists nor counts as repetitions
pub record Reported : Type 0 where
  pub listed : List Listed
  pub errors : ℕ
  pub notes : ℕ
  pub omitted : ℕ

-- the report of a list of findings: of the errors, and of the notes, the first 100 that repeat none before them, in the
-- order of the list, and how many there are; no number goes over 2^64 - 1
unfoldable pub report_of : List Found → Reported
report_of fs = record {
  listed = lines_from [] fs;
  errors = bounded_count is_an_error fs;
  notes = bounded_count is_a_note fs;
  omitted = min (left_out [] fs) (2 ^ 64 - 1);
}
