use Rattle.dm_target.proofs.Looking.{looks_as, performs_hits}
use Rattle.dm_target.proofs.watching.look_at_instruction.Goals as goal

pub returns-clause-looks : goal.returns-clause-looks
returns-clause-looks c =
    looks_as c.args.watches.now c.args.history.now.machine c.run-stop.new.self.machine c.run-stop.result
    c.first_hit-hit.result c.pause_at.result c.run-stop.ensures.run c.pause_at.ensures
    (performs_hits c.args.watches.now c.args.history.now.machine c.machine.result.now c.run-stop.new.self.machine
    c.run-stop.result c.first_hit-hit.result c.machine.ensures c.requires c.run-stop.ensures.run
    c.first_hit-hit.ensures)
