use Rattle.dm_views.proofs.CodeOnce.{code_once, registers_once}
use Rattle.dm_views.proofs.ArenaOnce.{arena_once}
use Rattle.dm_views.proofs.laws.listings_have_one_text.Goals as goal

pub returns : goal.returns
returns c = record { code = code_once; registers = registers_once; arena = arena_once }
