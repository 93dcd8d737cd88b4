use Rattle.std.proofs.Common.{◌∙◌}
use Rattle.dm_operations.proofs.Turns.{overflow_left}
use Rattle.dm_operations.proofs.bits.overflow_once.Goals as goal

pub returns-in-RotateLeft : goal.returns-in-RotateLeft
returns-in-RotateLeft c = c.with_turn.ensures ∙ overflow_left _ _ _ _ c.in-RotateLeft.is c.requires.before
    c.requires.after
