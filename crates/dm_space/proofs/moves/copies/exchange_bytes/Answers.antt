use Rattle.std.proofs.Common.{ap, ◌∙◌, arith}
use Rattle.dm_space.specs.Memory.{Held}
use Rattle.dm_space.proofs.moves.Stretches.{still-inside, exchange-done}
use Rattle.dm_space.proofs.moves.copies.exchange_bytes.Goals as goal

pub write-requires-2-clause-inside : goal.write-requires-2-clause-inside
write-requires-2-clause-inside c =
    let a = c.args in let m = a.space.now.memory in
    still-inside m _ _ a.to.now a.from.now 0 a.len a.len (ap (λ (h : Held). h.memory) c.read-2.ensures
    ∙ ap (λ (h : Held). h.memory) c.read.ensures) c.write.ensures c.requires.from

pub returns : goal.returns
returns c =
    let a = c.args in
    exchange-done a.space.now _ _ _ _ a.from.now a.to.now a.len (omega (
      arith,
      c.requires.scratch,
      c.a20-sizes.ensures.held.scratch_length,
    )) c.read.ensures c.read-2.ensures c.write.ensures c.write-2.ensures
