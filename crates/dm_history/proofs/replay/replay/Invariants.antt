use Rattle.std.proofs.Common.{◌≤◌, take, drop}
use Rattle.dm_services.specs.state.State.{HasProgram}
use Rattle.dm_history.specs.Becomes.{BecomesBy}
use Rattle.dm_history.specs.inner.Replays.{LeadsBeyond}
use Rattle.dm_history.proofs.replay.replay.Given as goal

-- the first edits are done, and the machine is where it was then
abbrev pub invariant-loop-edit : goal.invariant-loop-edit
invariant-loop-edit l = record {
  loaded : HasProgram l.machine;
  before : l.machine.steps ≤ l.step;
  becomes : BecomesBy l.initial.machine (take l.edit-index l.edits) l.machine;
  known : LeadsBeyond l.machine (drop l.edit-index l.edits) l.step;
}
