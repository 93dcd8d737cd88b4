use Rattle.std.proofs.Common.{refl, sym}
use Rattle.std.proofs.lemmas.Result.{IfOk-at_ok}
use Rattle.dm_host.specs.Events.{RunsSession, no_memory}
use Rattle.dm_host.proofs.host.Host.run_to.Goals as goal

pub returns-in_default-ended-clause-err : goal.returns-in_default-ended-clause-err
returns-in_default-ended-clause-err c = rw (← c.self.view_is) (no_memory c.in-Loaded-replace.session
    (sym c.in-Loaded-replace.ensures.value) refl)

pub returns-clause-ok : goal.returns-clause-ok
returns-clause-ok c = rw (← c.self.view_is) record {
  before = c.in-Loaded-replace.session;
  after = c.went-session.result.0;
  loaded = sym c.in-Loaded-replace.ensures.value;
  does = IfOk-at_ok (λ ending. RunsSession c.in-Loaded-replace.session c.args.n c.args.events.now ending
      c.went-session.result.0) c.in-Ok.is c.went-session.ensures.ok;
  is = refl;
}
