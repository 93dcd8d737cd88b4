use Rattle.dm_target.specs.inner.Looking as looking
use Rattle.dm_target.proofs.Looking.{passes_near}
use Rattle.dm_target.proofs.nearby.run_unhit.Goals as goal

pub returns-then-not-may_run_unhit-clause-near : goal.returns-then-not-may_run_unhit-clause-near
returns-then-not-may_run_unhit-clause-near c = looking.none

pub returns-in-Ok-clause-near : goal.returns-in-Ok-clause-near
returns-in-Ok-clause-near c =
    passes_near c.args.points.now c.args.watches.now c.args.span c.args.history.now.machine c.machine.result.now
    c.run_marked.new.history.machine c.cpu-segment.result c.put_pairs.new.pairs.items c.as_slice.result.now
    c.args.marks.now
    c.run_marked.result (c.may_run_unhit.ensures.span c.if-not-may_run_unhit.false) c.machine.ensures
    c.cpu-segment.ensures c.put_pairs.ensures.small c.in-Ok.ensures.pairs c.as_slice.ensures.value c.requires
    c.run_marked.ensures.unmarked
    (c.may_run_unhit.ensures.marks c.if-not-may_run_unhit.false) c.run_marked.ensures.near

pub returns-in-Err-clause-near : goal.returns-in-Err-clause-near
returns-in-Err-clause-near c = looking.none
