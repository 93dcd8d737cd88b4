use Rattle.std.proofs.Common.{refl}
use Rattle.dm_cli.proofs.Told.{not_flushed}
use Rattle.dm_cli.proofs.debugging.answer_at_once.Goals as goal

pub returns-in-Err-clause-err : goal.returns-in-Err-clause-err
returns-in-Err-clause-err g c = not_flushed _ _ _ _ _ _ _ _ _ c.in_ok-answer.ensures.ok c.in-Err.ensures.bytes
    (rw (← c.in_ok-answer.ensures.no_failure) c.in-Err.ensures.failures) refl
