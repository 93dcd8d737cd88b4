use Rattle.std.proofs.lemmas.Result.{IfOk-weaker, IfErr-weaker, err_from_is_err_and}
use Rattle.dm_cli.specs.Starting.{of_file, of_input, of_machine}
use Rattle.dm_cli.specs.Reads.{all_read}
use Rattle.dm_cli.proofs.Unread.{read_ok, input_tells, if_tells}
use Rattle.dm_cli.proofs.loading.loaded.Goals as goal

pub returns-clause-started : goal.returns-clause-started
returns-clause-started g c =
    IfOk-weaker c.begun.result _ _
    (λ m h. record {
      store = c.in_ok-programs.programs;
      stores = rw (c.as_slice.ensures.value) at c.in_ok-programs.ensures.store;
      input = c.in_ok-input.input.items;
      read = c.in_ok-input.ensures.bytes;
      begun = h;
    }) c.begun.ensures.begun

pub returns-in_err-programs-clause-fault : goal.returns-in_err-programs-clause-fault
returns-in_err-programs-clause-fault g c =
    let p = err_from_is_err_and c.from_residual.result c.from_residual.ensures.1 in
    rw (p.1, p.2) (of_file _ (rw (c.as_slice.ensures.value) at c.in_err-programs.ensures.fault))

pub returns-in_err-input-clause-fault : goal.returns-in_err-input-clause-fault
returns-in_err-input-clause-fault g c =
    let p = err_from_is_err_and c.from_residual-in_err-input.result c.from_residual-in_err-input.ensures.1 in
    rw (p.1, p.2) (of_input _ _ (rw (c.as_slice.ensures.value) at c.in_ok-programs.ensures.store)
    c.in_err-input.ensures.fault)

pub returns-clause-fault : goal.returns-clause-fault
returns-clause-fault g c =
    IfErr-weaker c.begun.result _ _ (λ e h. of_machine _ _ e (rw (c.as_slice.ensures.value) at
    c.in_ok-programs.ensures.store) c.in_ok-input.ensures.bytes h) c.begun.ensures.fault

pub returns-in_err-programs-clause-reads : goal.returns-in_err-programs-clause-reads
returns-in_err-programs-clause-reads g c =
    let p = err_from_is_err_and c.from_residual.result c.from_residual.ensures.1 in
    rw (p.1, p.2) c.in_err-programs.ensures.reads

pub returns-in_err-input-clause-reads : goal.returns-in_err-input-clause-reads
returns-in_err-input-clause-reads g c =
    let p = err_from_is_err_and c.from_residual-in_err-input.result c.from_residual-in_err-input.ensures.1 in
    rw (p.1, p.2) (all_read (read_ok _ _ c.in_ok-programs.ensures.reads) (input_tells _ _ c.in_err-input.ensures.fault))

pub returns-clause-reads : goal.returns-clause-reads
returns-clause-reads g c = all_read (read_ok _ _ c.in_ok-programs.ensures.reads) (if_tells _ c.begun.ensures.reads)
