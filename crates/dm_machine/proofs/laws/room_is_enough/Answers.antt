use Rattle.dm_machine.proofs.Rooms.{room-enough_for_runs, room-enough_for_steps}
use Rattle.dm_machine.proofs.laws.room_is_enough.Goals as goal

pub returns-clause-runs : goal.returns-clause-runs
returns-clause-runs c = room-enough_for_runs

pub returns-clause-steps : goal.returns-clause-steps
returns-clause-steps c = room-enough_for_steps
