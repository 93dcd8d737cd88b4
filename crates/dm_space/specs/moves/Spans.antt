-- Spans of memory, and the memory after a move (LIM EMS 4.0, function 24; XMS 3.0, function 0Bh) or an exchange of two
-- of them (function 24 alone): bytes are read and written through places.
use Rattle.std.specs.Prelude.{◌≡◌, ℕ, suc, ◌+◌, ◌*◌, ◌/◌, ◌%◌, ◌≤◌, ◌<◌, List, [], ◌∷◌, length, slice_index}
use Rattle.dm_pool.specs.Blocks.{IsLive}
use Rattle.dm_space.specs.declared.place.Place.{Place}
use Rattle.dm_space.specs.declared.place.Place.TheVariants.{Page}
use Rattle.dm_space.specs.Memory.{Memory, place, byte_at, with_byte, page_bytes, IsPage}
use Rattle.dm_space.specs.Copies.{values}
use Rattle.dm_space.specs.declared.moves.spans.SpanKind.{SpanKind}
use Rattle.dm_space.specs.declared.moves.spans.SpanKind.TheVariants.{Linear, Pages, Single}

-- a stretch of bytes: what it lies in, and where it begins; how many bytes it has is given where it is used
pub record Span : Type 0 where
  pub kind : SpanKind
  -- where it begins: a linear address; a byte of the pages, counted from the first one on; a byte of the one block
  pub start : ℕ
  -- the blocks of the pages, or the one block
  pub blocks : List ℕ

-- the span of a kind that begins at a byte, with the blocks of its pages or its one block
abbrev pub span : SpanKind → ℕ → List ℕ → Span
span kind start blocks = record { kind = kind; start = start; blocks = blocks }

-- the place of byte a, counted from linear address 0, or from the first byte of the pages or of the block
abbrev pub place_by_kind : Memory → SpanKind → List ℕ → ℕ → Place
place_by_kind m Linear blocks a = place m a
place_by_kind m Pages blocks a = Page (slice_index blocks (a / 0x4000)) (a % 0x4000)
place_by_kind m Single blocks a = Page (slice_index blocks 0) a

-- the place of byte k of a span; linear addresses are taken with A20 on
abbrev pub place_in : Memory → Span → ℕ → Place
place_in m r k = place_by_kind m r.kind r.blocks (r.start + k)

-- ---- bytes

-- byte k of a span, read through its place
abbrev pub byte_in : Memory → Span → ℕ → ℕ
byte_in m r k = byte_at m (place_in m r k)

-- the first n bytes of a span
abbrev pub bytes_in : Memory → Span → ℕ → List ℕ
bytes_in m r n = values (byte_in m r) 0 n

-- the memory after these bytes have been written to a span upwards, the first of them to its byte k
abbrev pub span_written : Memory → Span → ℕ → List ℕ → Memory
span_written m r k [] = m
span_written m r k (v ∷ vs) = span_written (with_byte m (place_in m r k) v) r (suc k) vs

-- the memory after the first n bytes of `from` have been copied to `to`, upwards: all are read before the first is
-- written
abbrev pub span_moved : Memory → Span → Span → ℕ → Memory
span_moved m from to n = span_written m to 0 (bytes_in m from n)

-- the memory after the first n bytes of two spans have been exchanged: all are read before the first is written, and
-- `to` is written before `from`
abbrev pub spans_exchanged : Memory → Span → Span → ℕ → Memory
spans_exchanged m from to n = span_written (span_written m to 0 (bytes_in m from n)) from 0 (bytes_in m to n)

-- ---- where a span of n bytes may lie

-- bytes up to `end`, which is not among them, lie below linear address 10FFF0h, within the pages, or within the one
-- block
abbrev pub IsWithin : Memory → SpanKind → List ℕ → ℕ → Type 0
IsWithin m Linear blocks end = end ≤ 0x10FFF0
IsWithin m Pages blocks end = (end ≤ 0x4000 * length blocks) × ((k : ℕ) → k < length blocks →
    IsPage m (slice_index blocks k))
IsWithin m Single blocks end = (length blocks ≡ 1) × IsLive m.blocks (slice_index blocks 0) ×
    (end ≤ length (page_bytes m (slice_index blocks 0)))

-- the first n bytes of a span lie below linear address 10FFF0h, within its pages, or within its block, by its kind;
-- they end below 2 ^ 32
pub record IsInside (m : Memory) (r : Span) (n : ℕ) : Type 0 where
  pub small : r.start + n < 0x100000000
  pub within : IsWithin m r.kind r.blocks (r.start + n)
