use Rattle.std.proofs.Common.{refl}
use Rattle.std.proofs.lemmas.Result.{IfOk-weaker}
use Rattle.dm_checker.proofs.checks.CheckedRun.go_on.Goals as goal

pub returns-clause-first : goal.returns-clause-first
returns-clause-first c = IfOk-weaker c.advance.result _ _ (λ stop h. h refl) c.advance.ensures.first
