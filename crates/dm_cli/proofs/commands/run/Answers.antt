use Rattle.std.proofs.Common.{refl}
use Rattle.std.proofs.KnownBytes.{Keeps-refl}
use Rattle.std.proofs.lemmas.Result.{err_from_is_err_and}
use Rattle.dm_cli.specs.Program.{not_started}
use Rattle.dm_cli.proofs.Ran.{run_of_machine}
use Rattle.dm_cli.specs.Reads.{all_read}
use Rattle.dm_cli.proofs.Unread.{read_ok}
use Rattle.dm_cli.proofs.commands.run.Goals as goal

pub returns-in_err-machine-clause-does : goal.returns-in_err-machine-clause-does
returns-in_err-machine-clause-does g c =
    let p = err_from_is_err_and c.from_residual.result c.from_residual.ensures.1 in
    rw (p.1, p.2) (not_started _ c.in_err-machine.ensures.fault (Keeps-refl _) refl)

pub returns-clause-does : goal.returns-clause-does
returns-clause-does g c = run_of_machine _ _ _ _ c.in_ok-machine.ensures.started _ _ _ _ _ c.run_machine.ensures.does

pub returns-in_err-machine-clause-reads : goal.returns-in_err-machine-clause-reads
returns-in_err-machine-clause-reads g c =
    let p = err_from_is_err_and c.from_residual.result c.from_residual.ensures.1 in
    rw (p.1, p.2) c.in_err-machine.ensures.reads

pub returns-clause-reads : goal.returns-clause-reads
returns-clause-reads g c = all_read (read_ok _ _ c.in_ok-machine.ensures.reads) c.run_machine.ensures.reads
