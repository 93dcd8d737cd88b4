use Rattle.dm_blocks.specs.Chain.{first_header}
use Rattle.dm_blocks.specs.Reading.{IsSpelledFrom}
use Rattle.dm_arena.proofs.Blocks.{freeing, frees}
use Rattle.dm_arena.proofs.owned.free.Goals as goal

pub returns-clause-memory : goal.returns-clause-memory
returns-clause-memory c =
    let x = c.in_ok-listed.ensures in
    let s : IsSpelledFrom c.args.space.now.memory first_header x.list = record {
      nonempty = x.arena.0.0;
      spells = x.arena.0.1;
    } in
    let o = x.found.0 in
    let f = x.found.1 x.list s in
    frees _ _ _ x.list _ c.in_ok-listed.listed f.0 f.1 x.arena f.2 o _ (c.write_cut.ensures.memory _ _ _ _ _ _
    (freeing _ _ _ x.list _ c.in_ok-listed.listed f.0 f.1 x.arena f.2 o))
