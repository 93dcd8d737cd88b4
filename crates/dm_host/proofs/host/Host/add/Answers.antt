use Rattle.dm_host.proofs.Loads.{unadded}
use Rattle.dm_host.proofs.host.Host.add.Goals as goal

pub returns-clause-err : goal.returns-clause-err
returns-clause-err c = rw (← c.self.view_is) (unadded _ c.in-Fresh.setup c.args.name.now c.add.result c.in-Fresh.is
    c.add.ensures.err)
