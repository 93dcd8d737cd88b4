-- The drivers: what each does, and how it returns. Interrupt vector 67h points to the expanded memory driver (LIM EMS
-- 4.0), vector 2Fh to the multiplex handler, which returns the address of the extended memory driver (XMS 3.0).
use Rattle.dm_drivers.specs.expanded.Caller as expanded
use Rattle.dm_drivers.specs.expanded.Functions as expanded_memory
use Rattle.dm_drivers.specs.extended.Caller as extended
use Rattle.dm_drivers.specs.extended.Functions as extended_memory
use Rattle.dm_services.specs.state.State.{State, Answer, go, interrupt_returned, far_returned}
use Rattle.dm_space.specs.declared.entry_points.Driver.{Driver}
use Rattle.dm_space.specs.declared.entry_points.Driver.TheVariants.{ExpandedMemory, Multiplex, ExtendedMemory}
use Rattle.dm_drivers.specs.Multiplex.{multiplex_reply}

-- the state after the driver's call, before the return to the program: registers, memory and the tables of expanded
-- memory are those that INT 67h (LIM EMS) leaves, or registers, memory and the tables of extended memory those that the
-- extended memory driver (XMS) leaves; for INT 2Fh, registers alone differ
abbrev pub acted : State → Driver → State
acted s ExpandedMemory =
    let c = expanded_memory.dispatched (expanded.caller s.cpu s.ems s.memory) in
    record s { cpu = c.cpu; memory = c.x.memory; ems = c.x.ems }
acted s Multiplex = record s { cpu = multiplex_reply s.cpu }
acted s ExtendedMemory =
    let c = extended_memory.dispatched s.upper (extended.caller s.cpu s.xms s.memory) in
    record s { cpu = c.cpu; memory = c.x.memory; xms = c.x.xms }

-- the state after the driver's return: IP, CS and FLAGS are popped after INT 67h and INT 2Fh, IP and CS after the far
-- call of the extended memory driver; memory, the tables and the count of steps stay
abbrev pub returned_to_caller : State → Driver → State
returned_to_caller s ExpandedMemory = interrupt_returned s
returned_to_caller s Multiplex = interrupt_returned s
returned_to_caller s ExtendedMemory = far_returned s

-- the step that a driver makes: it performs the call and returns to the program through the stack as it is then; the
-- machine goes on
abbrev pub driven : State → Driver → Answer
driven s driver = go (returned_to_caller (acted s driver) driver)
