-- The law that moves and exchanges of spans keep the map of memory.
use Rattle.std.specs.Prelude.{ℕ}
use Rattle.dm_space.specs.Memory.{Memory}
use Rattle.dm_space.specs.Places.{IsShaped}
use Rattle.dm_space.specs.moves.Spans.{Span, span_moved, spans_exchanged}

-- moves and exchanges keep A20, the windows, and which blocks there are, where they lie and how large they are
pub record MovesKeepTheMap : Type 0 where
  pub moving : (m : Memory) (from to : Span) (n : ℕ) → IsShaped m (span_moved m from to n)
  pub exchanging : (m : Memory) (from to : Span) (n : ℕ) → IsShaped m (spans_exchanged m from to n)
