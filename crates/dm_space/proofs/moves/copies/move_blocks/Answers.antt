use Rattle.std.proofs.Common.{◌+◌, ◌∙◌, ap, refl, arith}
use Rattle.dm_pool.specs.Blocks.{moved_bytes}
use Rattle.dm_space.specs.Memory.{Held, with_blocks}
use Rattle.dm_space.proofs.moves.Inside.{single-of}
use Rattle.dm_space.proofs.moves.Stretches.{indexed, blocks-done}
use Rattle.dm_space.proofs.moves.copies.move_blocks.Goals as goal

pub returns-clause-memory : goal.returns-clause-memory
returns-clause-memory c =
    let a = c.args in let h = a.space.now in let m = h.memory in
    let p = indexed c.index-blocks-0.is c.blocks-2.ensures refl (omega (
      arith,
      (single-of m a.from.now a.len c.requires.from c.requires.blocks.0).0,
    )) in
    let q = indexed c.index-blocks-0-2.is c.blocks-3.ensures refl (omega (
      arith,
      (single-of m a.to.now a.len c.requires.to c.requires.blocks.1).0,
    )) in
    ap (λ (x : Held). x.memory) c.move_bytes.ensures
    ∙ ap (λ from. with_blocks m (moved_bytes m.blocks c.index-blocks-0.result from c.index-blocks-0-2.result
    c.at-2.result a.len)) c.at.ensures
    ∙ ap (λ to. with_blocks m (moved_bytes m.blocks c.index-blocks-0.result (a.from.now.start
    + 0) c.index-blocks-0-2.result to a.len)) c.at-2.ensures
    ∙ blocks-done h a.from.now a.to.now _ _ a.len c.requires.blocks.0 c.requires.blocks.1 p q (omega (
      arith,
      c.if-len-eq0.false,
    )) c.requires.from c.requires.to
