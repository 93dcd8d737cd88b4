use Rattle.dm_services.proofs.Stores.{IsSent}
use Rattle.dm_services.proofs.buffers.send.Given as goal

abbrev pub invariant-loop-index : goal.invariant-loop-index
invariant-loop-index l = IsSent l.initial.console l.space.memory l.segment l.offset l.index l.console
