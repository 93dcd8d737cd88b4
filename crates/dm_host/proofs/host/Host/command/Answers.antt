use Rattle.std.proofs.Common.{ap, Err, inl, inr}
use Rattle.dm_host.proofs.Lines.{uncommanded}
use Rattle.dm_host.proofs.host.Host.command.Goals as goal

pub returns-in-Err-clause-err : goal.returns-in-Err-clause-err
returns-in-Err-clause-err c = rw (← c.self.view_is, c.refusal_of.ensures)
    (uncommanded _ c.in-Loaded.session c.command.new.self c.args.line.now c.in-Err.refusal _ _ c.in-Loaded.is
    (λ e. (c.in-Err.ensures.syntax.0 (ap Err e), (c.in-Err.ensures.unchanged (inl (ap Err e))).0))
    (λ e. (c.in-Err.ensures.full.0 (ap Err e), (c.in-Err.ensures.unchanged (inr (ap Err e))).0))
    (λ e. (c.in-Err.ensures.memory (ap Err e)).0)
    (λ e. (c.in-Err.ensures.write (ap Err e)).0))
