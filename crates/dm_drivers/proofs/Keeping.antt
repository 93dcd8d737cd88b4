-- What the drivers keep.
use Rattle.std.proofs.Common.{◌≡◌, refl}
use Rattle.dm_drivers.proofs.expanded.Keeping as expanded_memory
use Rattle.dm_drivers.proofs.extended.Keeping as extended_memory
use Rattle.dm_services.specs.state.State.{State, AreConsistent, go}
use Rattle.dm_services.proofs.state.Consistent.{expanded_changed, extended_changed, returned_consistent, far_returned_consistent}
use Rattle.dm_space.specs.declared.entry_points.Driver.{Driver}
use Rattle.dm_space.specs.declared.entry_points.Driver.TheVariants.{ExpandedMemory, Multiplex, ExtendedMemory}
use Rattle.dm_drivers.specs.expanded.Caller as expanded
use Rattle.dm_drivers.specs.extended.Caller as extended
use Rattle.dm_drivers.specs.Drivers.{acted, returned_to_caller, driven}
use Rattle.dm_drivers.specs.Laws.{LeavesTheRest, DriversKeep}

acted_consistent : (s : State) (driver : Driver) → AreConsistent s → AreConsistent (acted s driver)
acted_consistent s ExpandedMemory l = expanded_changed s _ l (expanded_memory.keep.consistency
    (expanded.caller s.cpu s.ems s.memory) l.ems) (expanded_memory.keep.outside (expanded.caller s.cpu s.ems s.memory))
acted_consistent s Multiplex l = l
acted_consistent s ExtendedMemory l = extended_changed s _ l (extended_memory.keep.consistency s.upper
    (extended.caller s.cpu s.xms s.memory) l.xms) (extended_memory.keep.outside s.upper
    (extended.caller s.cpu s.xms s.memory))

driver_returned_consistent : (s : State) (driver : Driver) → AreConsistent s →
    AreConsistent (returned_to_caller s driver)
driver_returned_consistent s ExpandedMemory l = returned_consistent s l
driver_returned_consistent s Multiplex l = returned_consistent s l
driver_returned_consistent s ExtendedMemory l = far_returned_consistent s l

driven_consistent : (s : State) (driver : Driver) → AreConsistent s → AreConsistent (driven s driver).state
driven_consistent s driver l = driver_returned_consistent (acted s driver) driver (acted_consistent s driver l)

-- act, return and count, one after the other
pub drive_consistent : (s p q r : State) (driver : Driver) → p ≡ acted s driver → q ≡ returned_to_caller p driver →
    r ≡ (go q).state → AreConsistent s → AreConsistent r
drive_consistent s p q r driver e f g l = rw (g, f, e) (driven_consistent s driver l)

-- the registers, memory, the tables and the count alone change
driven_rest : (s : State) (driver : Driver) → LeavesTheRest s (driven s driver)
driven_rest s ExpandedMemory = refl
driven_rest s Multiplex = refl
driven_rest s ExtendedMemory = refl

pub keep : DriversKeep
keep = record { rest = driven_rest; consistency = driven_consistent }
