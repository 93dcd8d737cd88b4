use Rattle.std.proofs.Common.{◌∙◌}
use Rattle.dm_blocks.proofs.Finding.{linked-found}
use Rattle.dm_blocks.proofs.list.is_linked.Goals as goal

pub returns : goal.returns
returns c = λ L s. c.is_some.ensures ∙ linked-found _ L _ c.find.ensures.found s
