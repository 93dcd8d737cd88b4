use Rattle.dm_arena.proofs.Words.{word-poked}
use Rattle.dm_arena.proofs.writing.set_low_word.Goals as goal

pub returns-clause-memory : goal.returns-clause-memory
returns-clause-memory c = word-poked _ _ _ _ _ c.requires.low c.requires.offset c.knows_sizes.ensures.held
    c.set_low_word.ensures
