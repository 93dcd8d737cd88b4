-- The findings of the last checked run of a host that had a report.
use Rattle.std.specs.Prelude.{◌≡◌, ℕ, ◌≤◌, List, slice_get, length, Some}
use Rattle.dm_findings.specs.declared.report.Listed.{Listed}
use Rattle.dm_reports.specs.Texts.{found_line}
use Rattle.dm_host.specs.declared.refusal.Refusal.{Refusal}
use Rattle.dm_host.specs.declared.refusal.Refusal.TheVariants.{Memory, NoFinding}
use Rattle.dm_host.specs.Hosts.{Hosted}

-- the text is the line of finding k of the report, from 0
pub record TellsFinding (h : Hosted) (k : ℕ) (text : List ℕ) : Type 0 where
  pub listed : Listed
  pub there : slice_get h.report.listed k ≡ Some listed
  pub is : text ≡ found_line listed.found

-- why there is no line, in this order: the report lists no finding k; an allocation failed
pub data IsUntold (h : Hosted) (k : ℕ) (why : Refusal) : Type 0 where
  no_finding : length h.report.listed ≤ k → why ≡ NoFinding → IsUntold h k why
  no_memory : why ≡ Memory → IsUntold h k why
