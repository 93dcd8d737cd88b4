use Rattle.dm_history.specs.Becomes.{start}
use Rattle.dm_history.proofs.Replaying.{edit-comes, known-item, next-state, replayed, on-ok}
use Rattle.dm_history.proofs.replay.replay.Goals as goal

pub loop-edit-init : goal.loop-edit-init
loop-edit-init c = record {
  loaded = c.requires.loaded;
  before = c.requires.before;
  becomes = start;
  known = c.requires.known;
}

pub run_up_to-requires-clause-before : goal.run_up_to-requires-clause-before
run_up_to-requires-clause-before c =
    edit-comes _ _ _ _ (known-item _ _ _ _ c.edit-item.result c.loop-edit-test.true c.edit-item.is
    c.loop-edit.invariant.known) c.requires.below

pub loop-edit-preserved : goal.loop-edit-preserved
loop-edit-preserved c =
    let n = next-state _ _ _ c.apply.new.machine _ _ _ c.edit-item.result c.apply.ensures c.loop-edit-test.true
    c.edit-item.is c.requires.below c.loop-edit.invariant.becomes c.loop-edit.invariant.known
    c.in_ok-run_up_to.ensures.ok
    c.in_ok-run_up_to.ensures.loaded in
    record { loaded = n.loaded; before = n.before; becomes = n.becomes; known = n.known }

pub returns-clause-ok : goal.returns-clause-ok
returns-clause-ok c =
    on-ok _ (λ r. replayed _ _ _ _ _ _ c.loop-edit-test.false c.requires.below c.loop-edit.invariant.before
    c.loop-edit.invariant.becomes c.loop-edit.invariant.known r) c.run_up_to-2.ensures.ok
