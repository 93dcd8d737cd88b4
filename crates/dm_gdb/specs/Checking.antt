-- `monitor check`: steps from the present state to the first in which the checker finds something.
-- Source: GDB manual, "GDB Remote Serial Protocol", "General Query Packets" (`qRcmd`). The command, and what it prints,
-- is this server's own choice.
use Rattle.std.specs.Prelude.{◌≡◌, ◌≢◌, ◌<◌, ◌≤◌, ℕ, ◌+◌, Bool, List, [], ◌∷◌, ◌++◌, codes, Option, Some, None}
use Rattle.std.specs.Str.{bytes_eq}
use Rattle.dm_services.specs.declared.state.stop.Stop.{Stop}
use Rattle.dm_services.specs.declared.state.stop.Stop.TheVariants as stop
use Rattle.dm_services.specs.state.State.{State}
use Rattle.dm_machine.specs.Run.{Answers, IsRun}
use Rattle.dm_findings.specs.declared.finding.Found.{Found}
use Rattle.dm_findings.specs.declared.report.Listed.{Listed}
use Rattle.dm_findings.specs.Report.{Reported, report_of}
use Rattle.dm_reports.specs.Reports.{lines_text, omitted_line}
use Rattle.dm_reports.specs.Stops.{reason_text}
use Rattle.dm_origins.specs.Origins.{Known}
use Rattle.dm_checker.specs.Checks.{FindsAtStop, FindsIn}
use Rattle.dm_checker.specs.Origins.{OriginsIn}
use Rattle.dm_gdb.specs.declared.replies.Reply.{Reply}
use Rattle.dm_gdb.specs.declared.replies.Reply.TheVariants as reply

-- whether a line is this command
abbrev pub is_check : List ℕ → Bool
is_check line = bytes_eq line (codes "check")

-- the most steps that the command makes
abbrev pub most_checked : ℕ
most_checked = 100000000

-- ---- what is printed

-- the lines of the findings that are listed, as `dm check` prints them, and how many have no line; or that there is
-- none
abbrev pub findings_text : List Listed → ℕ → List ℕ
findings_text [] omitted = codes "nothing is found" ++ 10 ∷ []
findings_text (l ∷ ls) omitted = lines_text (l ∷ ls) ++ omitted_line omitted

-- the line that says that the program has stopped, and why
abbrev pub stopped_line : Stop → List ℕ
stopped_line why = codes "the program has stopped: " ++ reason_text why ++ 10 ∷ []

-- the line about the end of the steps: none where they led to a finding, and the program goes on
abbrev pub checked_end_line : Option Stop → List ℕ
checked_end_line None = []
checked_end_line (Some stop.Steps) = codes "100000000 steps were made" ++ 10 ∷ []
checked_end_line (Some why) = stopped_line why

-- what is printed, by the report of the steps
unfoldable pub checked_text : Reported → Option Stop → List ℕ
checked_text r why = findings_text r.listed r.omitted ++ checked_end_line why

-- ---- what the command does

-- the reply to the command in the state s, and the state that it leads to: n steps in which nothing is found, and one
-- more in which something is (`finds`); the program had ended before (`over`); nothing is found in the most steps
-- (`whole`); or the program stops first (`stops`), and what is found in its last step, as by its end, is printed too.
-- For want of memory for the console's output the steps may end on the way (`short`)
pub data ChecksFrom (s : State) : Reply → State → Type 0 where
  finds : (n : ℕ) (before t : State) (found : List Found) → s.exited ≡ None → n < most_checked → FindsIn s n before [] →
      FindsIn s (n + 1) t found → found ≢ []
      → ChecksFrom s (reply.Bytes (checked_text (report_of found) None)) t
  over : (code : ℕ) → s.exited ≡ Some code →
      ChecksFrom s (reply.Bytes (checked_text (report_of []) (Some (stop.Exited code)))) s
  whole : (t : State) → s.exited ≡ None → FindsIn s most_checked t [] →
      ChecksFrom s (reply.Bytes (checked_text (report_of []) (Some stop.Steps))) t
  stops : (made : ℕ) (before t : State) (k : Known) (found : List Found) (why : Stop) → s.exited ≡ None →
      why ≢ stop.Memory → made < most_checked
      → FindsIn s made before [] → OriginsIn s made before k → Answers before (Some why) t →
      FindsAtStop before why t k found
      → ChecksFrom s (reply.Bytes (checked_text (report_of found) (Some why))) t
  short : (n : ℕ) (t : State) → n ≤ most_checked → IsRun s n stop.Memory t → ChecksFrom s reply.StoppedBefore t
