use Rattle.std.proofs.Common.{◌∙◌, arith, ap, sym, Err}
use Rattle.std.proofs.lemmas.Result.{err_from_is_err_and}
use Rattle.dm_cli.specs.inner.Starting.{tail_is_long, no_first, first_refused}
use Rattle.dm_cli.proofs.Begins.{none_first, error_of_none, bad_name, load_refused}
use Rattle.dm_cli.proofs.Starts.{first_of}
use Rattle.dm_cli.proofs.Unread.{name_tells}
use Rattle.dm_cli.proofs.loading.load_first.Goals as goal

pub returns-clause-ok : goal.returns-clause-ok
returns-clause-ok c =
    let head = first_of (λ path. path.now) c.args.options.now.files.items c.in_ok-first.first.now
    (rw (c.ok_or.ensures.ok_part, c.in_ok-first.was, c.deref.ensures.value) at c.first.ensures.value) in
    record {
      first = c.in_ok-first.first.now.now;
      others = head.0;
      is_first = head.1;
      short = search (arith, c.if-tail-gt-MOST_TAIL_BYTES.false, c.as_bytes-tail.ensures.value);
      loaded = rw (c.in_ok-program_name.ensures.name.0, c.as_bytes-tail.ensures.value) at c.in_ok-load.ensures.ok;
    }

pub returns-then-tail-gt-MOST_TAIL_BYTES-clause-fault : goal.returns-then-tail-gt-MOST_TAIL_BYTES-clause-fault
returns-then-tail-gt-MOST_TAIL_BYTES-clause-fault c =
    tail_is_long (rw c.as_bytes-tail.ensures.value at c.if-tail-gt-MOST_TAIL_BYTES.true)

pub returns-in_err-first-clause-fault : goal.returns-in_err-first-clause-fault
returns-in_err-first-clause-fault c =
    let p = err_from_is_err_and c.from_residual.result c.from_residual.ensures.1 in
    let none = none_first (λ path. path.now) c.args.options.now.files.items (rw (
      c.ok_or.ensures.ok_part,
      c.in_err-first.was,
      c.deref.ensures.value,
    ) at c.first.ensures.value) in
    rw (p.1, p.2, error_of_none _ _ _ (sym c.ok_or.ensures.value ∙ c.in_err-first.was)) (no_first
    (search (arith, c.if-tail-gt-MOST_TAIL_BYTES.false, c.as_bytes-tail.ensures.value)) none)

pub returns-in_err-program_name-clause-fault : goal.returns-in_err-program_name-clause-fault
returns-in_err-program_name-clause-fault c =
    let p = err_from_is_err_and c.from_residual-in_err-program_name.result
    c.from_residual-in_err-program_name.ensures.1 in
    let head = first_of (λ path. path.now) c.args.options.now.files.items c.in_ok-first.first.now
    (rw (c.ok_or.ensures.ok_part, c.in_ok-first.was, c.deref.ensures.value) at c.first.ensures.value) in
    rw (p.1, p.2) (first_refused c.in_ok-first.first.now.now head.0 _
    (search (arith, c.if-tail-gt-MOST_TAIL_BYTES.false, c.as_bytes-tail.ensures.value)) head.1
    (bad_name _ _ _ c.in_err-program_name.ensures.fault (λ h. let e = c.in_err-program_name.ensures.good h in cc)))

pub returns-in_err-load-clause-fault : goal.returns-in_err-load-clause-fault
returns-in_err-load-clause-fault c =
    let p = err_from_is_err_and c.from_residual-in_err-load.result c.from_residual-in_err-load.ensures.1 in
    let head = first_of (λ path. path.now) c.args.options.now.files.items c.in_ok-first.first.now
    (rw (c.ok_or.ensures.ok_part, c.in_ok-first.was, c.deref.ensures.value) at c.first.ensures.value) in
    rw (p.1, p.2) (first_refused c.in_ok-first.first.now.now head.0 _
    (search (arith, c.if-tail-gt-MOST_TAIL_BYTES.false, c.as_bytes-tail.ensures.value)) head.1
    (load_refused _ _ _ (λ e. rw c.in_ok-program_name.ensures.name.0 at (c.in_err-load.ensures.not_found.0 (ap Err e)))
    (λ e. rw c.in_ok-program_name.ensures.name.0 at (c.in_err-load.ensures.bad_format.0 (ap Err e)))
    (λ e. rw c.in_ok-program_name.ensures.name.0 at (c.in_err-load.ensures.short.0 (ap Err e)))))

pub returns-in_err-program_name-clause-reads : goal.returns-in_err-program_name-clause-reads
returns-in_err-program_name-clause-reads c =
    let p = err_from_is_err_and c.from_residual-in_err-program_name.result
    c.from_residual-in_err-program_name.ensures.1 in
    rw (p.1, p.2) (name_tells _ _ c.in_err-program_name.ensures.fault)
