use Rattle.std.proofs.Common.{refl, subst}
use Rattle.std.specs.Bool.{OnTrue}
use Rattle.dm_space.proofs.Places.{shaped-same}
use Rattle.dm_blocks.specs.Chain.{IsHeader, signature_byte}
use Rattle.dm_arena.proofs.writing.put_header.Goals as goal

pub returns-then-has_header-clause-memory : goal.returns-then-has_header-clause-memory
returns-then-has_header-clause-memory c =
    let there = subst (λ b. OnTrue b (IsHeader c.args.space.now.memory c.args.listed.header
    (signature_byte c.args.listed.last))) c.if-has_header.true c.has_header.ensures in
    record { shape = shaped-same _; written = λ w. there; kept = λ p ne. refl }
