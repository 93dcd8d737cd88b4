use Rattle.std.proofs.Common.{refl}
use Rattle.dm_ins.specs.Table.{entry_of}
use Rattle.dm_ins.proofs.TableRules.{groups_listed}
use Rattle.dm_ins.proofs.table.entry_at.Goals as goal

pub returns-clause-entry : goal.returns-clause-entry
unfolding entry_of
returns-clause-entry c = refl

pub returns-clause-group : goal.returns-clause-group
unfolding entry_of
returns-clause-group c = groups_listed c.args.opcode
