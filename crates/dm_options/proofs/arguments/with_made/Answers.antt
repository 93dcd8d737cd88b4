use Rattle.std.proofs.lemmas.Result.{IfOk-weaker}
use Rattle.dm_options.proofs.arguments.with_made.Goals as goal

pub returns-clause-app : goal.returns-clause-app
returns-clause-app c = rw c.in_ok-made.was (IfOk-weaker c.subcommand.result _ _ (λ r h. h.shape) c.subcommand.ensures)
