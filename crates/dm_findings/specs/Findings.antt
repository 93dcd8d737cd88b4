-- Findings: which are errors.
use Rattle.std.specs.Prelude.{not, Bool, true, false}
use Rattle.dm_findings.specs.declared.finding.Finding.{Finding}
use Rattle.dm_findings.specs.declared.finding.Finding.TheVariants.{Whole, NotServed, Refused, Short, FreeRead, FreeWritten, StackFreed, RomWritten, NothingWritten, TailWritten, OtherFreed, NotResized, Held}
use Rattle.dm_findings.specs.declared.finding.Found.{Found}

-- whether the finding is an error: all but a block list that is valid again, an interrupt that is not served, a failed
-- call that does not free or resize what is not allocated, a write to the ROM, to no memory or to bytes 5 to 15 of a
-- header, a block freed that another process owned, a resident program's block that was not resized, and what a
-- resident program holds, which are notes
abbrev pub is_error : Finding → Bool
is_error Whole = false
is_error NotServed = false
is_error (Refused code) = false
is_error (Short asked largest) = false
is_error (RomWritten segment offset) = false
is_error (NothingWritten segment offset) = false
is_error (TailWritten at byte) = false
is_error (OtherFreed at owner) = false
is_error (NotResized asked) = false
is_error (Held kept) = false
is_error _ = true

-- whether what was found is an error, not a note
abbrev pub is_an_error : Found → Bool
is_an_error f = is_error f.finding

-- whether the finding is a note, not an error
abbrev pub is_a_note : Found → Bool
is_a_note f = not (is_an_error f)

-- whether the finding is about free memory: that an instruction reads it or writes to it, or that a stack is in it
abbrev pub is_of_free_memory : Finding → Bool
is_of_free_memory (FreeRead block segment offset) = true
is_of_free_memory (FreeWritten block segment offset) = true
is_of_free_memory (StackFreed block) = true
is_of_free_memory _ = false
