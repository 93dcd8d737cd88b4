use Rattle.std.proofs.Common.{refl}
use Rattle.dm_host.proofs.host.Host.run_until.Goals as goal

pub returns-clause-ok : goal.returns-clause-ok
returns-clause-ok c = rw (← c.self.view_is) record {
  before = c.in-Loaded.session;
  after = c.run_until.new.self;
  loaded = c.in-Loaded.is;
  does = (c.run_until.ensures.run, c.run_until.ensures.points);
  is = refl;
}
