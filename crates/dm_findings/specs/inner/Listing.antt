-- How one more finding changes the lines of a report. No definition of a report mentions it.
use Rattle.std.specs.Prelude.{◌≡◌, ℕ, ◌+◌, ◌-◌, ◌^◌, min, Bool, true, false, if◌then◌else◌, List, [], ◌∷◌, ◌++◌, map}
use Rattle.std.specs.List.{list_any}
use Rattle.dm_findings.specs.declared.finding.Found.{Found}
use Rattle.dm_findings.specs.declared.report.Listed.{Listed}
use Rattle.dm_findings.specs.Findings.{is_an_error, is_a_note}
use Rattle.dm_findings.specs.Repeats.{is_repeated}
use Rattle.dm_findings.specs.Report.{Reported, line_of, repeats, is_listed}

-- the finding of a line
abbrev pub found_of : Listed → Found
found_of l = l.found

-- whether f repeats the finding of the line
abbrev pub is_again : Found → Listed → Bool
is_again f l = is_repeated l.found f

-- whether the line's finding is an error (for true), or a note
abbrev pub is_kind : Bool → Listed → Bool
is_kind true l = is_an_error l.found
is_kind false l = is_a_note l.found

-- the line with one more repetition, the finding f, whether f repeats it or not
abbrev pub one_more : Found → Listed → Listed
one_more f l = record { found = l.found; more = min (l.more + 1) (2 ^ 64 - 1); last = f.step }

-- the line, with one more repetition if f repeats it
abbrev pub counted : Found → Listed → Listed
counted f l = if is_again f l then one_more f l else l

-- the line of f, if it is listed behind these lines
abbrev pub new_line : List Listed → Found → List Listed
new_line ls f = if is_listed (map found_of ls) f then line_of f [] ∷ [] else []

-- how many findings are left out with f, if n are without it: f counts if it is neither listed nor repeats one that is
abbrev pub out_with : List Listed → Found → ℕ → ℕ
out_with ls f n = if is_listed (map found_of ls) f then n else if repeats (map found_of ls) f then n else
    min (n + 1) (2 ^ 64 - 1)

-- `new` is the report `old` with f listed, counted as a repetition or left out; the numbers of errors and notes stay
pub record Lists (f : Found) (old new : Reported) : Type 0 where
  pub listed : new.listed ≡ map (counted f) old.listed ++ new_line old.listed f
  pub omitted : new.omitted ≡ out_with old.listed f old.omitted
  pub errors : new.errors ≡ old.errors
  pub notes : new.notes ≡ old.notes
