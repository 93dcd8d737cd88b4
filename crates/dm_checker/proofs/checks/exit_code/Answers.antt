use Rattle.std.proofs.Common.{sym}
use Rattle.dm_checker.proofs.Checking.{no_step, is_running}
use Rattle.dm_checker.proofs.Underway.{exited_with}
use Rattle.dm_checker.proofs.checks.exit_code.Goals as goal

pub returns-in-Exited-clause-code : goal.returns-in-Exited-clause-code
returns-in-Exited-clause-code c = sym (exited_with c.args.machine.now c.run.new.self c.in-Exited.code
    c.in-Exited.ensures.run).0

pub returns-in-Exited-clause-same : goal.returns-in-Exited-clause-same
returns-in-Exited-clause-same c = (exited_with c.args.machine.now c.run.new.self c.in-Exited.code
    c.in-Exited.ensures.run).1

pub returns-in_default-clause-code : goal.returns-in_default-clause-code
returns-in_default-clause-code c = sym (is_running c.args.machine.now c.run.new.self c.run.result c.run.ensures.run
    c.in_default.not-Exited)

pub returns-in_default-clause-same : goal.returns-in_default-clause-same
returns-in_default-clause-same c = no_step c.args.machine.now c.run.new.self c.run.result c.run.ensures.run
