use Rattle.std.proofs.Common.{subst, sym, Option, ◌++◌}
use Rattle.dm_lines.specs.declared.token.Name as Name'
use Rattle.dm_asm.specs.Labels.{IsFree}
use Rattle.dm_asm.specs.inner.Kept.{AreKept}
use Rattle.dm_asm.specs.Programs.{own_label}
use Rattle.dm_asm.proofs.assembly.add_label.Goals as goal

pub returns-in-Ok-true-clause-added : goal.returns-in-Ok-true-clause-added
returns-in-Ok-true-clause-added c = λ list kept.
    subst (λ (l : Option Name'.Name). IsFree l list × AreKept c.add.new.self (list ++ own_label l c.args.place))
    (sym c.in-Some.is) (c.in-Ok-true.ensures.added c.in-Ok-true.field-0-test list kept)
