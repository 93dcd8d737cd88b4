use Rattle.dm_views.proofs.CodeTexts.{HasLines}
use Rattle.dm_views.proofs.code.put_code.Given as goal

abbrev pub invariant-loop : goal.invariant-loop
invariant-loop l = HasLines l.space.memory l.segment l.offset l.initial.out.items l.counter l.at l.out.items
