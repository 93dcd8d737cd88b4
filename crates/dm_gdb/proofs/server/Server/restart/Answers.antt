use Rattle.std.proofs.Common.{refl}
use Rattle.dm_gdb.specs.Servers.{restarts}
use Rattle.dm_gdb.proofs.Replying.{replies_as, restarted_as}
use Rattle.dm_gdb.proofs.server.Server.restart.Goals as goal

pub returns-clause-ok : goal.returns-clause-ok
returns-clause-ok c = λ most. replies_as c.args.self.now _ _ most _ _ _ _ restarts refl refl
    (restarted_as _ _ _ c.restart.new.self c.self.view_is c.in_ok-restart.ensures.ok refl)
