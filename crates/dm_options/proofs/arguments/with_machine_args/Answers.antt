use Rattle.std.proofs.Common.{Bool, ◌||◌, ap₂, refl, rules, ◌∙◌}
use Rattle.std.proofs.lemmas.Result.{IfOk-weaker}
use Rattle.clap.specs.Words.{with_rule}
use Rattle.dm_options.proofs.arguments.with_machine_args.Goals as goal

pub returns-clause-app : goal.returns-clause-app
returns-clause-app c =
    let steps = c.in_ok-arg.ensures.shape c.requires ∙ ap₂ with_rule (search rules) refl in
    let ems = c.in_ok-arg-2.ensures.shape c.ems_arg.ensures.local ∙ ap₂ with_rule steps c.ems_arg.ensures.rule in
    let xms = c.in_ok-arg-3.ensures.shape c.xms_arg.ensures.local ∙ ap₂ with_rule ems c.xms_arg.ensures.rule in
    let upper = c.in_ok-arg-4.ensures.shape c.upper_arg.ensures.local ∙ ap₂ with_rule xms c.upper_arg.ensures.rule in
    let tail = c.in_ok-arg-5.ensures.shape c.tail_arg.ensures.local ∙ ap₂ with_rule upper c.tail_arg.ensures.rule in
    IfOk-weaker c.arg-6.result _ _
    (λ r h. h.shape c.files_arg.ensures.local ∙ ap₂ with_rule tail c.files_arg.ensures.rule) c.arg-6.ensures

pub returns-clause-local : goal.returns-clause-local
returns-clause-local c = λ h.
    let either = λ (a b : Bool). a || b in
    let steps = c.in_ok-arg.ensures.globals ∙ ap₂ either h c.requires in
    let ems = c.in_ok-arg-2.ensures.globals ∙ ap₂ either steps c.ems_arg.ensures.local in
    let xms = c.in_ok-arg-3.ensures.globals ∙ ap₂ either ems c.xms_arg.ensures.local in
    let upper = c.in_ok-arg-4.ensures.globals ∙ ap₂ either xms c.upper_arg.ensures.local in
    let tail = c.in_ok-arg-5.ensures.globals ∙ ap₂ either upper c.tail_arg.ensures.local in
    IfOk-weaker c.arg-6.result _ _ (λ r k. k.globals ∙ ap₂ either tail c.files_arg.ensures.local) c.arg-6.ensures
