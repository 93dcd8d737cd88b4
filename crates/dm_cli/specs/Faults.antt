-- The faults of the commands of `dm`: their texts, and which of them speak of a file or stream by its name.
use Rattle.std.specs.Prelude.{ℕ, ◌≡◌, ◌++◌, List, [], ◌∷◌, codes, decimal}
use Rattle.dm_asm.specs.declared.refusal.AssemblyRefusal.{AssemblyRefusal}
use Rattle.dm_asm.specs.declared.refusal.AssemblyRefusal.TheVariants as refusal
use Rattle.dm_cli.specs.declared.fault.Fault.{Fault}
use Rattle.dm_cli.specs.declared.fault.Fault.TheVariants as fault

-- the fault for an assembly text that has an error
abbrev pub refusal_fault : AssemblyRefusal → Fault
refusal_fault (refusal.Syntax line) = fault.Syntax line
refusal_fault (refusal.Unknown line) = fault.Unknown line
refusal_fault (refusal.Range line) = fault.Range line
refusal_fault (refusal.Twice line) = fault.Twice line
refusal_fault refusal.TooLong = fault.TooLong
refusal_fault refusal.Memory = fault.OutOfMemory

-- the text of a fault, without `dm: `
abbrev pub fault_text : Fault → List ℕ
fault_text (fault.CannotRead name) = codes "cannot read " ++ name.now
fault_text (fault.CannotWrite name) = codes "cannot write " ++ name.now
fault_text fault.NotFound = codes "not found"
fault_text fault.BadFormat = codes "bad format"
fault_text fault.Short = codes "short"
fault_text fault.TooLarge = codes "too large"
fault_text fault.TailTooLong = codes "tail too long"
fault_text fault.NameTooLong = codes "name too long"
fault_text fault.NameTwice = codes "name twice"
fault_text fault.InputTooLong = codes "input too long"
fault_text fault.TooLong = codes "too long"
fault_text (fault.Syntax line) = codes "line " ++ decimal line ++ codes ": syntax"
fault_text (fault.Unknown line) = codes "line " ++ decimal line ++ codes ": unknown"
fault_text (fault.Range line) = codes "line " ++ decimal line ++ codes ": range"
fault_text (fault.Twice line) = codes "line " ++ decimal line ++ codes ": twice"
fault_text fault.OutOfMemory = codes "out of memory"

-- the line of a fault on standard error
abbrev pub fault_line : Fault → List ℕ
fault_line f = codes "dm: " ++ fault_text f ++ 10 ∷ []

-- the fault says that the file or stream of this name can't be read
abbrev pub IsUnread : List ℕ → Fault → Type 0
IsUnread name (fault.CannotRead read) = read.now ≡ name
IsUnread name _ = ⊥

-- the fault says that the file or stream of this name can't be written
abbrev pub IsUnwritten : List ℕ → Fault → Type 0
IsUnwritten name (fault.CannotWrite written) = written.now ≡ name
IsUnwritten name _ = ⊥

-- the fault says that standard input can't be read
abbrev pub IsReadFault : Fault → Type 0
IsReadFault = IsUnread (codes "standard input")

-- the fault says that standard output can't be written
abbrev pub IsWriteFault : Fault → Type 0
IsWriteFault = IsUnwritten (codes "standard output")
