use Rattle.std.proofs.Common.{refl}
use Rattle.dm_ins.specs.Table.{member_of}
use Rattle.dm_ins.proofs.table.member.Goals as goal

pub returns : goal.returns
unfolding member_of
returns c = refl
