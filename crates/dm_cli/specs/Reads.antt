-- Reads of files that fail, and the fault that comes of one.
use Rattle.std.specs.Prelude.{ℕ, ◌≡◌, ◌⊎◌, Bool, List, Option, Some, None, Result, Ok, Err, codes}
use Rattle.dm_console.specs.writers.Out.{HasFailed}
use Rattle.dm_cli.specs.declared.fault.Fault.{Fault}
use Rattle.dm_cli.specs.declared.fault.Fault.TheVariants as fault
use Rattle.dm_cli.specs.Names.{IsFileName, last_part}

-- the fault of a result, if it has one
abbrev pub fault_if : {A : Type 0} → Result A Fault → Option Fault
fault_if (Ok x) = None
fault_if (Err e) = Some e

-- the name is not one under which a file is opened: it is that of standard input, or a path whose last part names no
-- file
abbrev pub IsUnopened : List ℕ → Type 0
IsUnopened name = (name ≡ codes "standard input") ⊎ (¬ IsFileName (last_part name))

-- the fault, if there is one, does not say that a file could not be read, unless it is one that is not opened
abbrev pub TellsOfNoFile : Option Fault → Type 0
TellsOfNoFile (Some (fault.CannotRead name)) = IsUnopened name.now
TellsOfNoFile _ = Unit {0}

-- the fault says that a file could not be read, or that memory ran out
abbrev pub TellsOfAFile : Option Fault → Type 0
TellsOfAFile (Some (fault.CannotRead name)) = Unit {0}
TellsOfAFile (Some fault.OutOfMemory) = Unit {0}
TellsOfAFile _ = ⊥

-- files were read, with the fault `end` if there is one; `before` and `after` are how many opens and reads of files
-- have failed: none more, and the fault tells of no file; or one more, and then it does, or says that memory ran out
pub data ReadsFiles (before after : ℕ) (end : Option Fault) : Type 0 where
  all_read : after ≡ before → TellsOfNoFile end → ReadsFiles before after end
  one_unread : HasFailed before after → TellsOfAFile end → ReadsFiles before after end

-- what a read of a file leaves as it was: what files hold, which paths lead to one file, which files were written, how
-- many saves failed, and how often two paths were found to lead to one file
pub record IsKept (known known' : List ℕ → Option (List ℕ)) (same same' : List ℕ → List ℕ → Option Bool)
    (saved saved' : Option (List (List ℕ × List ℕ))) (failed failed' found found' : ℕ) : Type 0 where
  pub files : known' ≡ known
  pub paths : same' ≡ same
  pub saves : saved' ≡ saved
  pub count : failed' ≡ failed
  pub found_same : found' ≡ found
