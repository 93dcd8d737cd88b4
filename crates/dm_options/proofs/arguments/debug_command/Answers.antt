use Rattle.std.proofs.Common.{Bool, ◌||◌, ap, ap₂, rules, ◌∙◌}
use Rattle.std.proofs.lemmas.Result.{IfOk-weaker}
use Rattle.std.specs.Prelude.{codes}
use Rattle.clap.specs.Words.{new_app, with_rule}
use Rattle.dm_options.specs.Arguments.{with_machine_rules}
use Rattle.dm_options.proofs.arguments.debug_command.Goals as goal

pub returns-clause-app : goal.returns-clause-app
returns-clause-app c =
    let machine = c.in_ok-with_machine_args.ensures.app ∙ ap (with_machine_rules _) {y = new_app (codes "debug")}
    (search rules) ∙ ap (λ r. with_machine_rules r (new_app (codes "debug"))) c.steps_arg.ensures.rule in
    IfOk-weaker c.arg.result _ _
    (λ r h. h.shape c.input_arg.ensures.local ∙ ap₂ with_rule machine c.input_arg.ensures.rule) c.arg.ensures

pub returns-clause-local : goal.returns-clause-local
returns-clause-local c =
    let either = λ (a b : Bool). a || b in
    let local = c.in_ok-with_machine_args.ensures.local (search rules) in
    IfOk-weaker c.arg.result _ _ (λ r k. k.globals ∙ ap₂ either local c.input_arg.ensures.local) c.arg.ensures
