-- What is stored keeps the map of memory.
use Rattle.std.proofs.Common.{ℕ, suc, List, [], ◌∷◌}
use Rattle.dm_space.specs.Memory.{Memory, with_byte}
use Rattle.dm_space.specs.Places.{IsShaped}
use Rattle.dm_space.proofs.Places.{shaped-same, shaped-then, shaped-with}
use Rattle.dm_space.specs.moves.Spans.{Span, place_in, span_written, bytes_in, spans_exchanged}
use Rattle.dm_space.specs.moves.Laws.{MovesKeepTheMap}

pub stored-shaped : (m : Memory) (r : Span) (k : ℕ) (vs : List ℕ) → IsShaped m (span_written m r k vs)
stored-shaped m r k [] = shaped-same m
stored-shaped m r k (v ∷ vs) =
    let t = with_byte m (place_in m r k) v in
    shaped-then m t (span_written t r (suc k) vs) (shaped-with m (place_in m r k) v) (stored-shaped t r (suc k) vs)

pub moves_keep : MovesKeepTheMap
moves_keep = record {
  moving = λ m from to n. stored-shaped m to 0 (bytes_in m from n);
  exchanging = λ m from to n.
      let t = span_written m to 0 (bytes_in m from n) in
      shaped-then m t (spans_exchanged m from to n) (stored-shaped m to 0 (bytes_in m from n))
      (stored-shaped t from 0 (bytes_in m to n));
}
