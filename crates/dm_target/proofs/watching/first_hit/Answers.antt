use Rattle.dm_target.proofs.Looking.{hit_decoded, none_decoded}
use Rattle.dm_target.proofs.watching.first_hit.Goals as goal

pub returns-in-Some : goal.returns-in-Some
returns-in-Some c =
    hit_decoded c.args.machine.now c.sixteen_bytes.result c.cpu-cpu.result c.space-space.result.now.memory c.a20.result
    c.in-Some.ins c.in-Some.length c.touched-touched.result.reads c.touched-touched.result.writes c.args.watches.now
    c.first_touched.result c.space-space.ensures c.cpu-cpu.ensures c.sixteen_bytes.ensures c.in-Some.ensures
    c.touched-touched.ensures.reads c.touched-touched.ensures.writes c.a20.ensures.a20 c.first_touched.ensures

pub returns-in-None : goal.returns-in-None
returns-in-None c i length b = absurd (none_decoded c.args.machine.now c.sixteen_bytes.result c.cpu-cpu.result
    c.space-space.result.now.memory i length c.space-space.ensures c.cpu-cpu.ensures c.sixteen_bytes.ensures
    c.in-None.ensures b)
