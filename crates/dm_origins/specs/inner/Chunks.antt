-- The origins of paragraphs, kept in chunks of 256.
use Rattle.std.specs.Prelude.{◌/◌, List, slice_index_or, Option, None}
use Rattle.std.specs.Option.{option_or}
use Rattle.dm_findings.specs.declared.finding.Origin.{Origin}
use Rattle.dm_origins.specs.Origins.{each_from}

-- the last step that freed each paragraph: the step that freed its whole chunk, or else what is kept of the paragraph
-- alone
unfoldable pub freed_by : List (Option Origin) → List (Option Origin) → List (Option Origin)
freed_by wholes each = each_from (λ p x. option_or (slice_index_or wholes (p / 256) None) x) 0 each
