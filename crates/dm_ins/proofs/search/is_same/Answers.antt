use Rattle.std.proofs.Common.{sym, ◌∙◌}
use denote.Enum.Bare.{same_true, true_same}
use Rattle.dm_ins.specs.contracts.action.Mnemonic.{the_type}
use Rattle.dm_ins.proofs.search.is_same.Goals as goal

pub returns : goal.returns
returns c = (
  λ t. same_true the_type tt c.args.a c.args.b (sym c.eq.ensures ∙ t),
  λ e. c.eq.ensures ∙ true_same the_type c.args.a c.args.b e,
)
