use Rattle.std.proofs.Common.{inr, length, ◌∙◌, ap, arith}
use Rattle.std.proofs.lemmas.List.{take_all}
use Rattle.dm_system_tests.proofs.regions.all.Goals as goal

pub part-requires : goal.part-requires
part-requires c = (omega (arith, c.len.ensures), inr (inr c.requires))

pub returns : goal.returns
returns c = c.part.ensures ∙ take_all c.len.result c.args.region.now.bytes (omega (arith, c.len.ensures))
