use Rattle.std.proofs.Common.{◌∙◌, refl}
use Rattle.dm_cli.specs.Stores.{none}
use Rattle.std.proofs.lemmas.Result.{err_from_is_err_and}
use Rattle.dm_cli.specs.Reads.{all_read}
use Rattle.dm_cli.proofs.Starts.{file_fault, stores_more}
use Rattle.dm_cli.proofs.Unread.{read_ok, reads_after, kept_then, adds_kept, fault_kept}
use Rattle.dm_cli.proofs.loading.read_programs.Goals as goal

pub loop-path-init : goal.loop-path-init
loop-path-init g c = record {
  stores = rw c.new-programs.ensures none;
  all = refl;
  kept = record { files = refl; paths = refl; saves = refl; count = refl; found_same = refl };
}

pub loop-path-preserved : goal.loop-path-preserved
loop-path-preserved g c = record {
  stores = stores_more (λ path. path.now) _ c.args.paths.now c.loop-path.path-index _ _ _ c.loop-path-test.true
      c.loop-path.invariant.stores
      (adds_kept _ _ _ _ _ c.loop-path.invariant.kept.files c.in_ok-add_file.ensures.ok);
  all = read_ok _ _ c.in_ok-add_file.ensures.reads ∙ c.loop-path.invariant.all;
  kept = kept_then _ _ _ _ _ _ _ _ _ _ _ _ _ _ _ c.loop-path.invariant.kept c.in_ok-add_file.ensures.kept;
}

pub returns-in_err-add_file-clause-fault : goal.returns-in_err-add_file-clause-fault
returns-in_err-add_file-clause-fault g c =
    let p = err_from_is_err_and c.from_residual.result c.from_residual.ensures.1 in
    rw (p.1, p.2) (file_fault (λ path. path.now) _ c.args.paths.now c.loop-path.path-index _ _ _ c.loop-path-test.true
    c.loop-path.invariant.stores
    (fault_kept _ _ _ _ _ c.loop-path.invariant.kept.files c.in_err-add_file.ensures.fault))

pub returns-in_err-add_file-clause-reads : goal.returns-in_err-add_file-clause-reads
returns-in_err-add_file-clause-reads g c =
    let p = err_from_is_err_and c.from_residual.result c.from_residual.ensures.1 in
    rw (p.1, p.2) (reads_after _ _ _ _ c.loop-path.invariant.all c.in_err-add_file.ensures.reads)

pub returns-in_err-add_file-clause-kept : goal.returns-in_err-add_file-clause-kept
returns-in_err-add_file-clause-kept g c = kept_then _ _ _ _ _ _ _ _ _ _ _ _ _ _ _ c.loop-path.invariant.kept
    c.in_err-add_file.ensures.kept

pub returns-clause-reads : goal.returns-clause-reads
returns-clause-reads g c = all_read c.loop-path.invariant.all tt
