-- How a walk over upper memory finds its gaps. For private contracts and proofs alone. Paragraphs are counted from
-- D000h.
use Rattle.std.specs.Prelude.{ℕ, ◌+◌, ◌-◌, ◌==◌, if◌then◌else◌, List, [], ◌∷◌, Option, Some, None}
use Rattle.dm_pool.specs.Gaps.{Gap}
use Rattle.dm_xms.specs.declared.tables.Upper.{Upper}
use Rattle.dm_xms.specs.Uppers.{first_segment, all_paragraphs}

-- the gaps gs with one more before them, from paragraph k up to but not including l, unless that is empty
abbrev pub with_gap : ℕ → ℕ → List Gap → List Gap
with_gap k l gs = if k == l then gs else record { low = k; size = l - k } ∷ gs

-- the gaps from paragraph k to the end of upper memory between blocks that rise and begin at k or above
abbrev pub gaps_between : ℕ → List Upper → List Gap
gaps_between k [] = with_gap k all_paragraphs []
gaps_between k (u ∷ us) = with_gap k (u.segment - first_segment) (gaps_between (u.segment - first_segment
    + u.paragraphs) us)

-- the segment of a paragraph of upper memory
abbrev pub segment_of : Option ℕ → Option ℕ
segment_of None = None
segment_of (Some p) = Some (first_segment + p)
