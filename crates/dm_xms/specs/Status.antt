-- The error codes that failing calls of the driver return in BL (XMS 3.0, error code index).
use Rattle.std.specs.Prelude.{ℕ}
use Rattle.dm_xms.specs.declared.status.Status.{Status}
use Rattle.dm_xms.specs.declared.status.Status.TheVariants as status

-- the code in BL of an error
unfoldable pub code_of : Status → ℕ
code_of status.LineError = 0x82
code_of status.AreaTaken = 0x91
code_of status.AreaNotTaken = 0x93
code_of status.LineStillOn = 0x94
code_of status.NoMemory = 0xA0
code_of status.NoHandleLeft = 0xA1
code_of status.UnknownHandle = 0xA2
code_of status.UnknownSource = 0xA3
code_of status.PastSource = 0xA4
code_of status.UnknownDestination = 0xA5
code_of status.PastDestination = 0xA6
code_of status.BadLength = 0xA7
code_of status.NotLocked = 0xAA
code_of status.Locked = 0xAB
code_of status.TooManyLocks = 0xAC
