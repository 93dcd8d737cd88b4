use Rattle.std.specs.Prelude.{option_to_list}
use Rattle.dm_arena.specs.Blocks.{join}
use Rattle.dm_arena.proofs.Beside.{occupied-beside, occupied-both}
use Rattle.dm_arena.proofs.standing.is_occupied.Goals as goal

pub returns-then-has_place : goal.returns-then-has_place
returns-then-has_place c = λ L s. occupied-beside _ (option_to_list c.args.beside) (join c.args.upper L) _
    c.if-has_place.ensures

pub returns : goal.returns
returns c = λ L s. occupied-both _ (option_to_list c.args.beside) (join c.args.upper L) _ _ c.if-has_place.ensures
    (c.stands_joined.ensures L s)
