use Rattle.std.proofs.Common.{refl}
use Rattle.dm_target.specs.Watching.{unwatched}
use Rattle.dm_target.proofs.Lists.{nothing_in}
use Rattle.dm_target.proofs.Looking.{looks_as}
use Rattle.dm_target.proofs.watching.look.Goals as goal

pub returns-then-is_empty-clause-looks : goal.returns-then-is_empty-clause-looks
returns-then-is_empty-clause-looks c =
    looks_as c.args.watches.now c.args.history.now.machine c.run-stop.new.self.machine c.run-stop.result _
    c.pause_at.result c.run-stop.ensures.run c.pause_at.ensures (λ all.
    unwatched (nothing_in c.args.watches.now c.is_empty.result c.is_empty.ensures c.if-is_empty.true) refl)
