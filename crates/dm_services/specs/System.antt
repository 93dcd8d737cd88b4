-- INT 21h, the system's version and PSP: MS-DOS Programmer's Reference, "Get MS-DOS Version Number" (30h), "Get PSP
-- Address" (51h, 62h). Each call returns by popping IP, CS and FLAGS, and counts the step; memory stays.
use Rattle.dm_services.specs.state.State.{State, Answer, go, interrupt_returned}

-- 30h: version 5.0, so AL = 5 and AH = 0; no serial number, BX = CX = 0
unfoldable pub tell_version : State → Answer
tell_version s = go (interrupt_returned (record s { cpu = record s.cpu { ax = 5; bx = 0; cx = 0 } }))

-- 51h, 62h: BX is the segment of the present process's prefix (PSP)
unfoldable pub tell_process : State → Answer
tell_process s = go (interrupt_returned (record s { cpu = record s.cpu { bx = s.processes.present } }))
