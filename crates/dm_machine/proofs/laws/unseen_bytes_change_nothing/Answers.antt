use Rattle.dm_machine.proofs.Confined.{goes-unseen, run-unseen, blocks_run-unseen}
use Rattle.dm_machine.proofs.Kept.{run-kept}
use Rattle.dm_machine.proofs.Extended.{run-extended, run-extended_kept}
use Rattle.dm_machine.proofs.laws.unseen_bytes_change_nothing.Goals as goal

pub returns : goal.returns
returns c = record {
  steps = goes-unseen;
  runs = run-unseen;
  blocks = blocks_run-unseen;
  kept = run-kept;
  extended = run-extended;
  extended_kept = run-extended_kept;
}
