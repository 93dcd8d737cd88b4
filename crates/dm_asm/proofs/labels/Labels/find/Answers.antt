use Rattle.std.proofs.Common.{◌∙◌, ◌<◌, sym, subst, Option, IfSome, ℕ}
use Rattle.dm_asm.proofs.labels.Labels.find.Goals as goal

pub returns-clause-near : goal.returns-clause-near
returns-clause-near c = λ near. subst (λ (r : Option ℕ). IfSome r (λ place. place < 65536)) (sym (c.copied.ensures
    ∙ c.get.ensures.value)) (near c.args.name.now)
