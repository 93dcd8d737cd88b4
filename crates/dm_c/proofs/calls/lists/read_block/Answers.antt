use Rattle.std.proofs.Common.{refl}
use Rattle.dm_c.specs.calls.Calls.{refused}
use Rattle.dm_c.proofs.calls.lists.read_block.Goals as goal

pub returns-in-Err : goal.returns-in-Err
returns-in-Err c = (refused c.in-Err.refusal c.status_of.ensures (c.in-Err.ensures.err, c.in-Err.ensures.kept), refl)
