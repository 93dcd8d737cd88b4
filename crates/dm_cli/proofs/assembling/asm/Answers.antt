use Rattle.std.proofs.Common.{◌∙◌, refl, sym}
use Rattle.std.proofs.lemmas.Result.{err_from_is_err_and}
use Rattle.dm_cli.specs.Assembling.{saved, unsaved, not_over_its_path, not_over_its_file, not_assembled}
use Rattle.dm_cli.specs.Reads.{all_read}
use Rattle.dm_cli.proofs.Unread.{read_ok, save_tells}
use Rattle.dm_cli.proofs.Answered.{answered}
use Rattle.dm_cli.proofs.assembling.asm.Goals as goal

pub returns-in_err-bytes-clause-does : goal.returns-in_err-bytes-clause-does
returns-in_err-bytes-clause-does g c =
    let p = err_from_is_err_and c.from_residual.result c.from_residual.ensures.1 in
    rw (p.1, p.2) (not_assembled _ c.in_err-bytes.ensures.fault c.in_err-bytes.ensures.kept.saves
    c.in_err-bytes.ensures.kept.count c.in_err-bytes.ensures.kept.found_same)

pub returns-in_err-bytes-clause-reads : goal.returns-in_err-bytes-clause-reads
returns-in_err-bytes-clause-reads g c =
    let p = err_from_is_err_and c.from_residual.result c.from_residual.ensures.1 in
    rw (p.1, p.2) c.in_err-bytes.ensures.reads

pub returns-then-eq-clause-does : goal.returns-then-eq-clause-does
returns-then-eq-clause-does g c =
    not_over_its_path _ _ c.in_ok-bytes.ensures.bytes (sym c.eq.ensures
    ∙ c.if-eq.true) refl c.in_ok-bytes.ensures.kept.saves c.in_ok-bytes.ensures.kept.count
    c.in_ok-bytes.ensures.kept.found_same

pub returns-then-eq-clause-reads : goal.returns-then-eq-clause-reads
returns-then-eq-clause-reads g c = all_read (read_ok _ _ c.in_ok-bytes.ensures.reads) tt

pub returns-then-is_one_file-clause-does : goal.returns-then-is_one_file-clause-does
returns-then-is_one_file-clause-does g c =
    not_over_its_file _ _ c.in_ok-bytes.ensures.bytes (sym c.eq.ensures
    ∙ c.if-eq.false) (answered _ _ _ _ _ _ _ _ _ c.in_ok-bytes.ensures.kept.paths
    c.in_ok-bytes.ensures.kept.found_same refl c.if-is_one_file.true c.is_one_file.ensures.answer) refl
    (c.is_one_file.ensures.saved ∙ c.in_ok-bytes.ensures.kept.saves) (c.is_one_file.ensures.failures
    ∙ c.in_ok-bytes.ensures.kept.count)

pub returns-then-is_one_file-clause-reads : goal.returns-then-is_one_file-clause-reads
returns-then-is_one_file-clause-reads g c = all_read (c.is_one_file.ensures.unread ∙ read_ok _ _ c.in_ok-bytes.ensures.reads) tt

pub returns-in-Ok-clause-does : goal.returns-in-Ok-clause-does
returns-in-Ok-clause-does g c =
    saved _ c.in_ok-bytes.ensures.bytes (sym c.eq.ensures ∙ c.if-eq.false) (answered _ _ _ _ _ _ _ _ _
    c.in_ok-bytes.ensures.kept.paths c.in_ok-bytes.ensures.kept.found_same c.in-Ok.ensures.found_same
    c.if-is_one_file.false c.is_one_file.ensures.answer) (rw (
      c.as_slice.ensures.value,
      c.is_one_file.ensures.saved,
      c.in_ok-bytes.ensures.kept.saves,
    ) at c.in-Ok.ensures.saved) (c.in-Ok.ensures.failures
    ∙ (c.is_one_file.ensures.failures ∙ c.in_ok-bytes.ensures.kept.count))

pub returns-in-Ok-clause-reads : goal.returns-in-Ok-clause-reads
returns-in-Ok-clause-reads g c = all_read (c.in-Ok.ensures.unread ∙ (c.is_one_file.ensures.unread
    ∙ read_ok _ _ c.in_ok-bytes.ensures.reads)) tt

pub returns-clause-does : goal.returns-clause-does
returns-clause-does g c =
    unsaved _ _ c.in_ok-bytes.ensures.bytes (sym c.eq.ensures ∙ c.if-eq.false) (answered _ _ _ _ _ _ _ _ _
    c.in_ok-bytes.ensures.kept.paths c.in_ok-bytes.ensures.kept.found_same c.in-Err.ensures.found_same
    c.if-is_one_file.false c.is_one_file.ensures.answer) c.write_fault.ensures.fault
    (rw (c.is_one_file.ensures.failures, c.in_ok-bytes.ensures.kept.count) at c.in-Err.ensures.failures)
    (c.in-Err.ensures.refused ∙ (c.is_one_file.ensures.saved ∙ c.in_ok-bytes.ensures.kept.saves))

pub returns-clause-reads : goal.returns-clause-reads
returns-clause-reads g c = all_read (c.in-Err.ensures.unread ∙ (c.is_one_file.ensures.unread
    ∙ read_ok _ _ c.in_ok-bytes.ensures.reads)) (save_tells _ _ c.write_fault.ensures.fault)
