use Rattle.std.proofs.Common.{Err, ap, refl, inr}
use Rattle.std.proofs.lemmas.Result.{err_from_is_err_and}
use Rattle.dm_cli.specs.Stores.{nameless, not_read}
use Rattle.dm_cli.proofs.Starts.{fault_of_name, fault_of_store}
use Rattle.dm_cli.specs.Reads.{all_read}
use Rattle.dm_cli.proofs.Unread.{read_ok, name_tells, store_tells}
use Rattle.dm_cli.proofs.loading.add_file.Goals as goal

pub returns-in_err-bytes-clause-fault : goal.returns-in_err-bytes-clause-fault
returns-in_err-bytes-clause-fault g c =
    let p = err_from_is_err_and c.from_residual.result c.from_residual.ensures.1 in
    rw (p.1, p.2) (not_read _ (c.names_file.ensures.0 c.if-not-names_file.false) c.in_err-bytes.ensures.fault)

pub returns-in_err-name-clause-fault : goal.returns-in_err-name-clause-fault
returns-in_err-name-clause-fault g c =
    let p = err_from_is_err_and c.from_residual-in_err-name.result c.from_residual-in_err-name.ensures.1 in
    rw (p.1, p.2) (fault_of_name _ _ _ _ _ c.in_ok-bytes.ensures.bytes c.in_err-name.ensures.fault)

pub returns-in-Err-clause-fault : goal.returns-in-Err-clause-fault
returns-in-Err-clause-fault g c =
    rw c.from.ensures (fault_of_store c.in-Err.refusal _ _ _ _ _ c.in_ok-bytes.ensures.bytes c.in_ok-name.ensures.name.0
    c.in_ok-name.ensures.name.1
    (λ e. c.in-Err.ensures.twice.0 (ap Err e)))

pub returns-then-not-names_file-clause-fault : goal.returns-then-not-names_file-clause-fault
returns-then-not-names_file-clause-fault g c = nameless _ (λ h. let e = c.names_file.ensures.1 h in let no =
    c.if-not-names_file.true in cc) refl

pub returns-in_err-bytes-clause-reads : goal.returns-in_err-bytes-clause-reads
returns-in_err-bytes-clause-reads g c =
    let p = err_from_is_err_and c.from_residual.result c.from_residual.ensures.1 in
    rw (p.1, p.2) c.in_err-bytes.ensures.reads

pub returns-in_err-name-clause-reads : goal.returns-in_err-name-clause-reads
returns-in_err-name-clause-reads g c =
    let p = err_from_is_err_and c.from_residual-in_err-name.result c.from_residual-in_err-name.ensures.1 in
    rw (p.1, p.2) (all_read (read_ok _ _ c.in_ok-bytes.ensures.reads) (name_tells _ _ c.in_err-name.ensures.fault))

pub returns-in-Err-clause-reads : goal.returns-in-Err-clause-reads
returns-in-Err-clause-reads g c = rw c.from.ensures (all_read (read_ok _ _ c.in_ok-bytes.ensures.reads)
    (store_tells c.in-Err.refusal))

pub returns-in-Ok-clause-reads : goal.returns-in-Ok-clause-reads
returns-in-Ok-clause-reads g c = all_read (read_ok _ _ c.in_ok-bytes.ensures.reads) tt

pub returns-then-not-names_file-clause-reads : goal.returns-then-not-names_file-clause-reads
returns-then-not-names_file-clause-reads g c = all_read refl (inr (λ h. let e = c.names_file.ensures.1 h in let no =
    c.if-not-names_file.true in cc))
