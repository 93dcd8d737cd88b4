-- Moves of extended memory (XMS 3.0, function 0Bh). Errors are tried in the order in which they are written; an error
-- changes nothing. A side is the source or the destination.
use Rattle.std.specs.Prelude.{ℕ, ◌+◌, ◌*◌, ◌/◌, ◌%◌, nat_lt, ◌==◌, ◌||◌, if◌then◌else◌, [], ◌∷◌, Result, Ok, Err}
use Rattle.dm_space.specs.Memory.{Memory}
use Rattle.dm_space.specs.moves.Buffers.{word_after}
use Rattle.dm_space.specs.declared.moves.spans.SpanKind.TheVariants.{Linear, Single}
use Rattle.dm_space.specs.moves.Spans.{span, span_moved}
use Rattle.dm_xms.specs.declared.status.Status.{Status}
use Rattle.dm_xms.specs.declared.status.Status.TheVariants.{UnknownSource, PastSource, UnknownDestination, PastDestination, BadLength}
use Rattle.dm_xms.specs.declared.tables.Handle.{Handle}
use Rattle.dm_xms.specs.declared.moves.Description.{Description}
use Rattle.dm_xms.specs.declared.moves.Side.{Side}
use Rattle.dm_xms.specs.Tables.{Extended}
use Rattle.dm_xms.specs.Calls.{need, slot}

-- f of the result of a step that succeeds; the error of one that fails
abbrev pub and_then : {A B E : Type 0} → Result A E → (A → Result B E) → Result B E
and_then (Ok v) f = f v
and_then (Err e) f = Err e

-- the double word of a move's structure that stands k bytes after segment:offset; offsets wrap
abbrev pub double_after : Memory → ℕ → ℕ → ℕ → ℕ
double_after m segment offset k = word_after m segment offset k + 65536 * word_after m segment offset (k + 2)

-- the description of one side, k bytes after segment:offset: a handle, a word, and an offset, a double word, which for
-- handle 0 is an offset and a segment
abbrev pub described : Memory → ℕ → ℕ → ℕ → Description
described m segment offset k = record {
  handle = word_after m segment offset k;
  offset = double_after m segment offset (k + 2);
}

-- the side that is described: for handle 0 the offset holds an offset and, in its high word, a segment, of memory up
-- to the end of the high memory area, with A20 on, which is never an error here. For another it is the handle's block
-- from the offset on, up to the end of the block; the error `unknown` if the handle is not in use, `past` if the offset
-- is over its block's size
unfoldable pub side : Extended → Description → Status → Status → Result Side Status
side x d unknown past =
    if d.handle == 0 then Ok (record {
      region = span Linear (d.offset / 65536 * 16 + d.offset % 65536) [];
      end = 0x10FFF0;
    }) else
    need (slot x.xms d.handle) unknown (λ s.
    if nat_lt (0x400 * s.kib) d.offset then Err past else
    Ok (record { region = span Single d.offset (s.block ∷ []); end = 0x400 * s.kib }))

-- n bytes of `from` are copied to `to`, all read before the first is written; an error if either side has fewer. The
-- tables stay
unfoldable pub move_between : Extended → ℕ → Side → Side → Result (Unit {0} × Extended) Status
move_between x n from to =
    if nat_lt from.end (from.region.start + n) || nat_lt to.end (to.region.start + n) then Err BadLength else
    Ok (tt, record x { memory = span_moved x.memory from.region to.region n })

-- 0Bh: a move as the structure of 16 bytes at segment:offset says: the length in bytes, an even double word, and for
-- the source and then the destination a handle (a word) and an offset (a double word). An odd length is an error
unfoldable pub move_memory : Extended → ℕ → ℕ → Result (Unit {0} × Extended) Status
move_memory x segment offset =
    if double_after x.memory segment offset 0 % 2 == 1 then Err BadLength else
    and_then (side x (described x.memory segment offset 4) UnknownSource PastSource) (λ from.
    and_then (side x (described x.memory segment offset 10) UnknownDestination PastDestination) (λ to.
    move_between x (double_after x.memory segment offset 0) from to))
