use Rattle.dm_services.proofs.Texts.{IsRead}
use Rattle.dm_services.proofs.text.text_length.Given as goal

abbrev pub invariant-loop-index : goal.invariant-loop-index
invariant-loop-index l = IsRead l.space.memory l.segment l.offset 65536 l.index
