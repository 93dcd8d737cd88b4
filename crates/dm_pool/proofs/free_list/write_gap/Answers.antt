use Rattle.std.proofs.Common.{◌*◌, ap, ◌∙◌, inl, arith}
use Rattle.byteorder.specs.Endian.{little_number}
use Rattle.dm_pool.proofs.free_list.write_gap.Goals as goal

pub returns-clause-units : goal.returns-clause-units
returns-clause-units c = ap (little_number 4) (c.write_word-2.ensures.kept (c.args.unit * 1024) 4 (inl (omega arith)))
    ∙ c.write_word.ensures.value
