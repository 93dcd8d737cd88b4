-- Parts of a list of bytes, and the loan of a part of a region.
use Rattle.std.specs.Prelude.{ℕ, ◌+◌, List, ◌++◌, take, drop}
use Rattle.std.specs.Borrow.{Fml, MutBor, Array, u8, Lends}
use Rattle.std.specs.List.{refill}
use Rattle.dm_region.specs.Holes.{Holed}
use Rattle.dm_region.specs.contracts.region.Region.{the_row}

-- the len bytes of a list from its byte `from` on
abbrev pub part : List ℕ → ℕ → ℕ → List ℕ
part xs from len = take len (drop from xs)

-- xs with ws in place of its len bytes from the byte `from` on
abbrev pub with_part : List ℕ → ℕ → ℕ → List ℕ → List ℕ
with_part xs from len ws = take from xs ++ (ws ++ drop (from + len) xs)

-- when the loan r of len bytes of the region s from its byte `from` on ends, these bytes are what was written through
-- it; all others, and the hole, are as they were. (A slice keeps its length, so `refill` is the list that the borrower
-- leaves.)
abbrev pub LendsPart : MutBor Holed → ℕ → ℕ → MutBor (List ℕ) → Fml
LendsPart s from len r = Lends the_row (Array u8 0) s r (λ w. record s.now
    { bytes = with_part s.now.bytes from len (refill len (part s.now.bytes from len) w) })
