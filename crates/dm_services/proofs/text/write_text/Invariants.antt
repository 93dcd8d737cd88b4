use Rattle.dm_services.proofs.Texts.{IsPut}
use Rattle.dm_services.proofs.text.write_text.Given as goal

abbrev pub invariant-loop-index : goal.invariant-loop-index
invariant-loop-index l = IsPut l.initial.console l.console l.space.memory l.segment l.offset 65536 l.index
