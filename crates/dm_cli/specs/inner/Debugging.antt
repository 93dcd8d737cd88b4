-- Parts of a conversation of `dm debug`. Private contracts and proofs alone name these.
use Rattle.std.specs.Prelude.{ℕ, ◌≡◌, false, List, Option, Some, OnSome}
use Rattle.std.specs.Io.{StopsAt}
use Rattle.std.specs.Io.BufRead.{ends_with_byte}
use Rattle.std.specs.Io.KnownBytes.{Appends, Consumes, IsAtEnd, Keeps}
use Rattle.dm_debug.specs.Debugged.{Debugged}
use Rattle.dm_debug.specs.Sessions.{IsCutOff}
use Rattle.dm_console.specs.writers.Out.{AppendsPart, HasFailed}
use Rattle.dm_cli.specs.Faults.{IsWriteFault}
use Rattle.dm_cli.specs.declared.fault.Fault.{Fault}
use Rattle.dm_cli.specs.declared.fault.Fault.TheVariants.{OutOfMemory}
use Rattle.dm_cli.specs.Debugging.{IsConversation, Tells}

-- `line` is the next line of a reader, up to its first 0Ah, which it includes, or up to the reader's end; `before` and
-- `after` are the bytes left in the reader, where they are known
pub record Reads (before after : Option (List ℕ)) (line : List ℕ) : Type 0 where
  pub consumes : Consumes before after line
  pub stops : StopsAt line 10
  pub last : ends_with_byte 10 line ≡ false → OnSome before (IsAtEnd after)

-- the line led from session s to t, and its answer, or why it is refused, was written whole
pub record IsAnsweredBy (s : Debugged) (line : List ℕ) (t : Debugged) (before after : Option (List ℕ)) : Type 0 where
  pub text : List ℕ
  pub tells : Tells s line t text
  pub written : Appends before after text

-- the line's answer was not written whole or not flushed, with this fault: an allocation failed, and nothing was
-- written; or a write failed after a first part; or the flush failed
pub data IsUnanswered (s : Debugged) (line : List ℕ) (t : Debugged) (before after : Option (List ℕ))
    (opened failures : ℕ) : Fault → Type 0 where
  cut_short : IsCutOff s line t → Keeps before after → failures ≡ opened →
      IsUnanswered s line t before after opened failures OutOfMemory
  partly : (text : List ℕ) (fault : Fault) → Tells s line t text → AppendsPart before after text →
      HasFailed opened failures → IsWriteFault fault → IsUnanswered s line t before after opened failures fault
  unflushed : (text : List ℕ) (fault : Fault) → Tells s line t text → Appends before after text →
      HasFailed opened failures → IsWriteFault fault → IsUnanswered s line t before after opened failures fault

-- the lines of a reader, at most 16 MiB in all, were executed through a buffer; or the allocation of the buffer failed
pub data ConversesWith (typed : Option (List ℕ)) (s t : Debugged) (before after : Option (List ℕ))
    (opened failures : ℕ) : Option Fault → Type 0 where
  through_buffer : (end : Option Fault) → IsConversation 16777216 typed s t before after opened failures end →
      ConversesWith typed s t before after opened failures end
  without_buffer : Keeps before after → failures ≡ opened → ConversesWith typed s t before after opened failures
      (Some OutOfMemory)
