use Rattle.std.proofs.Common.{subst}
use Rattle.dm_services.specs.declared.state.stop.Stop.{Stop}
use Rattle.dm_machine.specs.Run.{IsRun}
use Rattle.dm_checker.proofs.Once.{ran_on, ran_out}
use Rattle.dm_checker.proofs.steps.run_once.Goals as goal

pub returns-in-Steps-clause-answers : goal.returns-in-Steps-clause-answers
returns-in-Steps-clause-answers c = (let F : Stop → Type 0 = λ x. IsRun c.args.machine.now 1 x c.run.new.self in
    ran_on c.args.machine.now c.run.new.self c.requires.uncalled (subst F c.in-Steps.is c.run.ensures.run))

pub returns-in_default : goal.returns-in_default
returns-in_default c =
    record {
      answers = ran_out c.args.machine.now c.run.new.self c.run.result c.in_default.not-Steps c.run.ensures.run;
      program = c.run.ensures.loaded;
    }
