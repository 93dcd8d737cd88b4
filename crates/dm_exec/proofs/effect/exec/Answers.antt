use Rattle.std.proofs.Common.{sym, ap}
use Rattle.dm_exec.specs.Effect.{next_of}
use Rattle.dm_exec.proofs.Halts.{halt_keeps}
use Rattle.dm_exec.proofs.effect.exec.Goals as goal

pub returns-in-Hlt-clause-effect : goal.returns-in-Hlt-clause-effect
returns-in-Hlt-clause-effect c = sym (halt_keeps _ _ _ (ap next_of c.in-Hlt.is))
