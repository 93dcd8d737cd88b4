use Rattle.std.proofs.Common.{refl, sym}
use Rattle.dm_host.specs.Checking.{no_memory}
use Rattle.dm_host.proofs.host.Host.check.Goals as goal

pub returns-in_default-found-clause-err : goal.returns-in_default-found-clause-err
returns-in_default-found-clause-err c =
    rw (← c.self.view_is) (no_memory c.in-Loaded-replace.session c.checked-session.result.0
    (sym c.in-Loaded-replace.ensures.value)
    (rw c.in_default-found.is at c.checked-session.ensures) refl refl)

pub returns-clause-ok : goal.returns-clause-ok
returns-clause-ok c = rw (← c.self.view_is) record {
  before = c.in-Loaded-replace.session;
  after = c.checked-session.result.0;
  report = c.in-Some.report;
  text = c.in-Some.text.items;
  loaded = sym c.in-Loaded-replace.ensures.value;
  checked = rw c.in-Some.is at c.checked-session.ensures;
  is = refl;
}
