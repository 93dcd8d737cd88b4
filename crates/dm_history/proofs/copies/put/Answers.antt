use Rattle.dm_history.proofs.Keeping.{gains}
use Rattle.dm_history.proofs.copies.put.Goals as goal

pub returns : goal.returns
returns c = gains _ _ _ _ c.push.ensures.items
