use Rattle.dm_debug.proofs.session.Session.run_until.Goals as goal

pub returns-clause-run : goal.returns-clause-run
returns-clause-run c = rw (← c.self.view_is) c.run_until.ensures.run
