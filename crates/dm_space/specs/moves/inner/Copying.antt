-- Bytes copied between spans and the scratch bytes, as private contracts and proofs speak of them.
use Rattle.std.specs.Prelude.{ℕ}
use Rattle.dm_region.specs.Parts.{part, with_part}
use Rattle.dm_space.specs.Memory.{Held}
use Rattle.dm_space.specs.Copies.{values}
use Rattle.dm_space.specs.moves.Spans.{Span, byte_in, span_written}

-- the space h after the n bytes of a span from its byte k on have been copied into the scratch bytes from `at` on; the
-- memory and the other scratch bytes stay
abbrev pub read_in : Held → Span → ℕ → ℕ → ℕ → Held
read_in h r k at n = record h { scratch = with_part h.scratch at n (values (byte_in h.memory r) k n) }

-- the space h after the n scratch bytes from `at` on have been written to a span from its byte k on; the scratch bytes
-- stay
abbrev pub written_out : Held → Span → ℕ → ℕ → ℕ → Held
written_out h r k at n = record h { memory = span_written h.memory r k (part h.scratch at n) }
