use Rattle.std.proofs.Common.{sym}
use Rattle.dm_host.proofs.Loads.{untested, begun_loads, unbegun_unloaded}
use Rattle.dm_host.proofs.host.Host.load.Goals as goal

pub returns-in-Err-clause-err : goal.returns-in-Err-clause-err
returns-in-Err-clause-err c = rw (← c.self.view_is) (untested _ c.in-Fresh.setup c.args.name.now c.args.tail.now
    c.args.input.now c.in-Err.refusal c.in-Fresh.is c.in-Err.ensures)

pub returns-in-Ok-clause-ok : goal.returns-in-Ok-clause-ok
returns-in-Ok-clause-ok c = rw (← c.self.view_is) (begun_loads _ c.in-Fresh-replace.setup c.args.name.now
    c.args.tail.now c.args.input.now c.in-Ok.session (sym c.in-Fresh-replace.ensures.value) c.in-Ok.ensures.ok)

pub returns-in-Err-begun-clause-err : goal.returns-in-Err-begun-clause-err
returns-in-Err-begun-clause-err c = rw (← c.self.view_is) (unbegun_unloaded _ c.in-Fresh.setup c.in-Fresh-replace.setup
    c.replace.new.dest c.args.name.now c.args.tail.now c.args.input.now c.in-Err-begun.refusal
    c.in-Fresh.is (sym c.in-Fresh-replace.ensures.value) c.in_default-test.ensures c.in-Err-begun.ensures.err
    c.in-Fresh-replace.ensures.after)
