-- The faults for the errors of the crates below. Private contracts and proofs alone name these.
use Rattle.dm_proc.specs.declared.programs.AddError.{AddError}
use Rattle.dm_proc.specs.declared.programs.AddError.TheVariants as add
use Rattle.dm_machine.specs.declared.machine.NewError.{NewError}
use Rattle.dm_machine.specs.declared.machine.NewError.TheVariants as new
use Rattle.dm_machine.specs.declared.loading.LoadError.{LoadError}
use Rattle.dm_machine.specs.declared.loading.LoadError.TheVariants as load
use Rattle.dm_cli.specs.declared.fault.Fault.{Fault}
use Rattle.dm_cli.specs.declared.fault.Fault.TheVariants as fault

-- the fault for a file that the store of programs did not take
abbrev pub add_fault : AddError → Fault
add_fault add.Twice = fault.NameTwice
add_fault add.Memory = fault.OutOfMemory

-- the fault for a machine that was not made
abbrev pub new_fault : NewError → Fault
new_fault new.TooLarge = fault.TooLarge
new_fault new.Memory = fault.OutOfMemory

-- the fault for a first program that was not loaded
abbrev pub load_fault : LoadError → Fault
load_fault load.NotFound = fault.NotFound
load_fault load.BadFormat = fault.BadFormat
load_fault load.Short = fault.Short
