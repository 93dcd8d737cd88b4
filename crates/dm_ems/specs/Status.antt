-- The status bytes that failing calls of INT 67h return in AH (LIM EMS 4.0, appendix A).
use Rattle.std.specs.Prelude.{ℕ}
use Rattle.dm_ems.specs.declared.status.Status.{Status}
use Rattle.dm_ems.specs.declared.status.Status.TheVariants as status

-- the status byte of an error
unfoldable pub code_of : Status → ℕ
code_of status.UnknownHandle = 0x83
code_of status.NoHandleLeft = 0x85
code_of status.ContextSaved = 0x86
code_of status.OverTotal = 0x87
code_of status.OverFree = 0x88
code_of status.NoPages = 0x89
code_of status.NoSuchPage = 0x8A
code_of status.NoSuchWindow = 0x8B
code_of status.SavedAlready = 0x8D
code_of status.NoneSaved = 0x8E
code_of status.NoSubfunction = 0x8F
code_of status.PastPages = 0x93
code_of status.KindsOverlap = 0x94
code_of status.OffsetPastPage = 0x95
code_of status.TooLong = 0x96
code_of status.ExchangeOverlaps = 0x97
code_of status.UnknownKind = 0x98
code_of status.NameNotFound = 0xA0
code_of status.NameTaken = 0xA1
code_of status.PastMemory = 0xA2
code_of status.BadMap = 0xA3
