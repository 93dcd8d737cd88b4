use Rattle.std.proofs.Common.{◌∙◌}
use Rattle.std.proofs.lemmas.Result.{IfOk-weaker, IfErr-weaker, err_from_is_err_and}
use Rattle.dm_cli.specs.Starting.{of_file, of_input, of_machine}
use Rattle.dm_cli.proofs.Begins.{input_of_session}
use Rattle.dm_cli.specs.Reads.{all_read}
use Rattle.dm_cli.proofs.Unread.{read_ok, reads_after, if_tells, kept_then, read_kept, input_kept}
use Rattle.dm_cli.proofs.loading.loaded_for_debug.Goals as goal

pub returns-clause-started : goal.returns-clause-started
returns-clause-started g c =
    IfOk-weaker c.begun.result _ _
    (λ m h. record {
      store = c.in_ok-programs.programs;
      stores = rw (c.as_slice.ensures.value) at c.in_ok-programs.ensures.store;
      input = c.in_ok-input.input.items;
      read = read_kept _ _ _ _ c.in_ok-programs.ensures.kept.files c.in_ok-input.ensures.bytes;
      begun = h;
    }) c.begun.ensures.begun

pub returns-in_err-programs-clause-fault : goal.returns-in_err-programs-clause-fault
returns-in_err-programs-clause-fault g c =
    let p = err_from_is_err_and c.from_residual.result c.from_residual.ensures.1 in
    rw (p.1, p.2) (of_file _ (rw (c.as_slice.ensures.value) at c.in_err-programs.ensures.fault))

pub returns-in_err-input-clause-fault : goal.returns-in_err-input-clause-fault
returns-in_err-input-clause-fault g c =
    let p = err_from_is_err_and c.from_residual-in_err-input.result c.from_residual-in_err-input.ensures.1 in
    rw (p.1, p.2) (of_input _ _ (rw (c.as_slice.ensures.value) at c.in_ok-programs.ensures.store)
    (input_of_session _ _ _ (input_kept _ _ _ _ c.in_ok-programs.ensures.kept.files c.in_err-input.ensures.fault)))

pub returns-clause-fault : goal.returns-clause-fault
returns-clause-fault g c =
    IfErr-weaker c.begun.result _ _ (λ e h. of_machine _ _ e (rw (c.as_slice.ensures.value) at
    c.in_ok-programs.ensures.store) (read_kept _ _ _ _ c.in_ok-programs.ensures.kept.files
    c.in_ok-input.ensures.bytes) h) c.begun.ensures.fault

pub returns-in_err-programs-clause-reads : goal.returns-in_err-programs-clause-reads
returns-in_err-programs-clause-reads g c =
    let p = err_from_is_err_and c.from_residual.result c.from_residual.ensures.1 in
    rw (p.1, p.2) c.in_err-programs.ensures.reads

pub returns-in_err-input-clause-reads : goal.returns-in_err-input-clause-reads
returns-in_err-input-clause-reads g c =
    let p = err_from_is_err_and c.from_residual-in_err-input.result c.from_residual-in_err-input.ensures.1 in
    rw (p.1, p.2) (reads_after _ _ _ _ (read_ok _ _ c.in_ok-programs.ensures.reads) c.in_err-input.ensures.reads)

pub returns-in_err-input-clause-kept : goal.returns-in_err-input-clause-kept
returns-in_err-input-clause-kept g c = kept_then _ _ _ _ _ _ _ _ _ _ _ _ _ _ _ c.in_ok-programs.ensures.kept
    c.in_err-input.ensures.kept

pub returns-clause-reads : goal.returns-clause-reads
returns-clause-reads g c = all_read (read_ok _ _ c.in_ok-input.ensures.reads
    ∙ read_ok _ _ c.in_ok-programs.ensures.reads) (if_tells _ c.begun.ensures.reads)

pub returns-clause-kept : goal.returns-clause-kept
returns-clause-kept g c = kept_then _ _ _ _ _ _ _ _ _ _ _ _ _ _ _ c.in_ok-programs.ensures.kept c.in_ok-input.ensures.kept
