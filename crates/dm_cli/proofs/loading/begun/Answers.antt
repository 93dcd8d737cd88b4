use Rattle.std.proofs.Common.{ap, Err}
use Rattle.std.proofs.lemmas.Result.{err_from_is_err_and}
use Rattle.dm_cli.proofs.Begins.{begun_by, fault_of_first, new_refused, not_too_large}
use Rattle.dm_cli.proofs.loading.begun.Goals as goal

pub returns-clause-begun : goal.returns-clause-begun
returns-clause-begun c =
    begun_by _ _ _ _ _ _ _ _ (not_too_large _ _ c.in_ok-machine.ensures.too_large)
    (rw (c.new.ensures.items) at c.in_ok-machine.ensures.ok) c.in_ok-load_first.ensures.ok

pub returns-in_err-machine-clause-fault : goal.returns-in_err-machine-clause-fault
returns-in_err-machine-clause-fault c =
    let p = err_from_is_err_and c.from_residual.result c.from_residual.ensures.1 in
    rw (p.1, p.2) (new_refused _ _ _ _ (λ e. c.in_err-machine.ensures.too_large.0 (ap Err e)))

pub returns-in_err-load_first-clause-fault : goal.returns-in_err-load_first-clause-fault
returns-in_err-load_first-clause-fault c =
    let p = err_from_is_err_and c.from_residual-in_err-load_first.result c.from_residual-in_err-load_first.ensures.1 in
    rw (p.1, p.2) (fault_of_first _ _ _ _ _ (not_too_large _ _ c.in_ok-machine.ensures.too_large)
    (rw (c.new.ensures.items) at c.in_ok-machine.ensures.ok)
    c.in_err-load_first.ensures.fault)

pub returns-in_err-load_first-clause-reads : goal.returns-in_err-load_first-clause-reads
returns-in_err-load_first-clause-reads c =
    let p = err_from_is_err_and c.from_residual-in_err-load_first.result c.from_residual-in_err-load_first.ensures.1 in
    rw (p.1, p.2) c.in_err-load_first.ensures.reads
