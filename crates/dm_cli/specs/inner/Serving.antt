-- Parts of a conversation of `dm gdb`. Private contracts and proofs alone name these.
use Rattle.std.specs.Prelude.{ℕ, ◌≡◌, ◌≢◌, List, [], ◌∷◌, Option, Some, None}
use Rattle.std.specs.Io.KnownBytes.{Appends, Consumes, IsAtEnd, Keeps}
use Rattle.dm_gdb.specs.Connections.{Connected, Takes}
use Rattle.dm_console.specs.writers.Out.{AppendsPart, HasFailed}
use Rattle.dm_cli.specs.Faults.{IsWriteFault}
use Rattle.dm_cli.specs.declared.fault.Fault.{Fault}
use Rattle.dm_cli.specs.declared.fault.Fault.TheVariants.{OutOfMemory}
use Rattle.dm_cli.specs.Serving.{IsServed}

-- a reader gave its next byte, or it is at its end; `before` and `after` are the bytes left in it, where they are known
abbrev pub GivesByte : Option (List ℕ) → Option (List ℕ) → Option ℕ → Type 0
GivesByte before after None = IsAtEnd before
GivesByte before after (Some byte) = Consumes before after (byte ∷ [])

-- the byte led from the conversation c to d, and what is sent for it was written whole
pub record IsTakenBy (most : ℕ) (c : Connected) (byte : ℕ) (d : Connected) (before after : Option (List ℕ)) : Type 0
  where
    pub sent : List ℕ
    pub takes : Takes most c byte sent d
    pub written : Appends before after sent

-- what is sent for the byte was not written whole or not flushed, with this fault: an allocation failed, and nothing
-- was written; or a write failed after a first part, or the flush
pub data IsUntaken (most : ℕ) (c : Connected) (byte : ℕ) (before after : Option (List ℕ))
    (opened failures : ℕ) : Fault → Type 0 where
  lacking : Keeps before after → failures ≡ opened → IsUntaken most c byte before after opened failures OutOfMemory
  partly : (sent : List ℕ) (d : Connected) (fault : Fault) → Takes most c byte sent d → sent ≢ [] →
      AppendsPart before after sent → HasFailed opened failures → IsWriteFault fault
      → IsUntaken most c byte before after opened failures fault

-- the bytes of a reader were taken through a buffer; or the allocation of the buffer failed
pub data ServesWith (most : ℕ) (typed : Option (List ℕ)) (c : Connected) (before after : Option (List ℕ))
    (opened failures : ℕ) : Option Fault → Type 0 where
  with_buffer : (end : Option Fault) → IsServed most 18446744073709551615 typed c before after opened failures end →
      ServesWith most typed c before after opened failures end
  no_buffer_for : Keeps before after → failures ≡ opened → ServesWith most typed c before after opened failures
      (Some OutOfMemory)
