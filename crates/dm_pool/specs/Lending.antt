-- What a store holds when the loan of one of its parts has ended. The other parts are as they were.
use Rattle.std.specs.Prelude.{ℕ, List, [], get_or, take}
use Rattle.std.specs.Borrow.{Lends, MutBor, Fml, Array, u8}
use Rattle.dm_pool.specs.Blocks.{with_content}
use Rattle.dm_pool.specs.Stored.{Stored, refit}
use Rattle.dm_pool.specs.contracts.store.Store.{the_row}

-- the low bytes are what was written through their loan (Store.low_mut)
abbrev pub LendsLow : MutBor Stored → MutBor (List ℕ) → Fml
LendsLow s r = Lends the_row (Array u8 0) s r (λ w. record s.now { low = refit s.now.low w })

-- the first len scratch bytes are what was written through their loan (Store.scratch_mut), the others as they were
abbrev pub LendsScratch : MutBor Stored → ℕ → MutBor (List ℕ) → Fml
LendsScratch s len r = Lends the_row (Array u8 0) s r (λ w. record s.now { scratch = refit s.now.scratch (take len w) })

-- the bytes of block i are what was written through their loan (Store.bytes_mut)
abbrev pub LendsBlock : MutBor Stored → ℕ → MutBor (List ℕ) → Fml
LendsBlock s i r = Lends the_row (Array u8 0) s r (λ w. record s.now
    { blocks = with_content s.now.blocks i (refit (get_or s.now.blocks.contents i []) w) })
