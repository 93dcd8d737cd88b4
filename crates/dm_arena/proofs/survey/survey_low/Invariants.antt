use Rattle.std.proofs.Common.{◌-◌, ◌≤◌, List, []}
use Rattle.dm_blocks.specs.declared.header.Header.{Header}
use Rattle.dm_blocks.specs.Chain.{first_header}
use Rattle.dm_blocks.specs.Reading.{IsSpelledFrom}
use Rattle.dm_arena.specs.inner.Survey.{IsSurveying}
use Rattle.dm_blocks.specs.Listing.{Leads}
use Rattle.dm_arena.proofs.survey.survey_low.Given as goal

abbrev pub invariant-walk : goal.invariant-walk
invariant-walk l = record {
  led : (P : List Header) × Leads l.space.memory [] first_header P l.segment;
  surveying : (L : List Header) → IsSpelledFrom l.space.memory first_header L → (K : List Header) ×
      IsSurveying l.upper l.space.memory L l.strategy l.n l.several l.from l.segment l.choice K;
}

abbrev pub decreases-walk : goal.decreases-walk
decreases-walk l = 0x10000 - l.segment
