use Rattle.dm_drivers.proofs.Keeping.{drive_consistent}
use Rattle.dm_drivers.proofs.drivers.drive.Goals as goal

pub returns-clause-consistent : goal.returns-clause-consistent
returns-clause-consistent c = drive_consistent _ _ _ _ _ c.call_driver.ensures c.return_to_caller.ensures
    c.count.ensures c.requires
