-- Where the bytes of a side of a move (function 0Bh) lie. For private contracts and proofs alone.
use Rattle.std.specs.Prelude.{◌≡◌, ◌⊎◌, ℕ, ◌+◌, ◌≤◌, ◌<◌, ◌^◌, Bool, true, false}
use Rattle.dm_space.specs.Memory.{Memory}
use Rattle.dm_space.specs.declared.moves.spans.SpanKind.{SpanKind}
use Rattle.dm_space.specs.declared.moves.spans.SpanKind.TheVariants.{Linear, Pages, Single}
use Rattle.dm_space.specs.moves.Spans.{IsInside}
use Rattle.dm_xms.specs.declared.moves.Side.{Side}

-- the region lies in one block of the pool
abbrev pub is_single : SpanKind → Bool
is_single Linear = false
is_single Pages = false
is_single Single = true

-- all bytes of a side of a move, up to its end, are in memory: in a block, or below the end of the high memory area
pub record Reaches (m : Memory) (s : Side) : Type 0 where
  pub small : s.region.start < 2 ^ 33
  pub short : (is_single s.region.kind ≡ true) ⊎ (s.end ≤ 0x10FFF0)
  pub inside : (n : ℕ) → s.region.start + n ≤ s.end → IsInside m s.region n
