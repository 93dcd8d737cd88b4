-- What `dm gdb` does with the bytes of its standard input, and what it writes.
-- Source: GDB manual, "GDB Remote Serial Protocol", "Overview".
use Rattle.std.specs.Prelude.{Bool, ℕ, suc, ◌≡◌, ◌≢◌, ◌≤◌, ◌++◌, true, false, List, [], ◌∷◌, Option, Some, None, IfSome, option_map, length, take}
use Rattle.std.specs.Io.KnownBytes.{Appends, Keeps}
use Rattle.dm_gdb.specs.Connections.{Connected, Takes, new_connection}
use Rattle.dm_options.specs.declared.command_line.DebugOptions.{DebugOptions}
use Rattle.dm_console.specs.writers.Out.{HasFailed}
use Rattle.dm_services.specs.state.State.{State}
use Rattle.dm_cli.specs.Faults.{IsReadFault, IsWriteFault}
use Rattle.dm_cli.specs.Starting.{IsStartedBy, IsStartFault, typed_in}
use Rattle.dm_cli.specs.declared.fault.Fault.{Fault}
use Rattle.dm_cli.specs.declared.fault.Fault.TheVariants.{OutOfMemory}

-- The bytes of a stream are taken one after the other, at most n of them, up to its end or that of the conversation.
-- What is sent for a byte is written and flushed before the next byte is read; a way to go on makes at most `most`
-- steps. The arguments after the conversation and the bytes are: what is written; the fault that ended it early, if
-- any; and whether all that was sent was written whole and flushed.
pub data ServesStream (most : ℕ) : ℕ → Connected → List ℕ → List ℕ → Option Fault → Bool → Type 0 where
  ended : (n : ℕ) (c : Connected) → c.over ≡ false → ServesStream most n c [] [] None true
  over : (n : ℕ) (c : Connected) (bytes : List ℕ) → c.over ≡ true → ServesStream most n c bytes [] None true
  exhausted : (c : Connected) (bytes : List ℕ) → ServesStream most 0 c bytes [] None true
  answers : (n : ℕ) (c d : Connected) (byte : ℕ) (bytes sent more : List ℕ) (end : Option Fault) (whole : Bool) →
      c.over ≡ false → Takes most c byte sent d
      → ServesStream most n d bytes more end whole → ServesStream most (suc n) c (byte ∷ bytes) (sent ++ more) end whole
  unread : (n : ℕ) (c : Connected) (bytes : List ℕ) (fault : Fault) → c.over ≡ false → IsReadFault fault →
      ServesStream most n c bytes [] (Some fault) true
  no_memory : (n : ℕ) (c : Connected) (bytes : List ℕ) → c.over ≡ false →
      ServesStream most n c bytes [] (Some OutOfMemory) true
  unwritten : (n : ℕ) (c d : Connected) (byte : ℕ) (bytes sent : List ℕ) (k : ℕ) (fault : Fault) → c.over ≡ false →
      Takes most c byte sent d → sent ≢ [] → k ≤ length sent
      → IsWriteFault fault → ServesStream most (suc n) c (byte ∷ bytes) (take k sent) (Some fault) false

-- the conversation takes the bytes of a reader, at most n of them; `end` is the fault that ended it early, if any.
-- `known` is what the reader has, where that is known; `before` and `after` are what the writer has taken; `opened` and
-- `failures` are the counts of its failures before and after. The count rises, unless it is at its highest, exactly if
-- something that was sent was not written whole or not flushed
pub record IsServed (most n : ℕ) (known : Option (List ℕ)) (c : Connected) (before after : Option (List ℕ))
    (opened failures : ℕ) (end : Option Fault) : Type 0 where
  pub bytes : List ℕ
  pub told : List ℕ
  pub whole : Bool
  pub read : IfSome known (λ xs. bytes ≡ xs)
  pub serves : ServesStream most n c bytes told end whole
  pub written : Appends before after told
  pub failed : whole ≡ false → HasFailed opened failures
  pub none_failed : whole ≡ true → failures ≡ opened

-- `dm gdb`: what is sent for the bytes of standard input, of which it reads at most 2^64 - 1, up to a fault if there is
-- one; or a fault before the first byte, and nothing is written
pub data DebugsByGdb (files : List ℕ → Option (List ℕ)) (typed : Option (List ℕ)) (o : DebugOptions)
    (before after : Option (List ℕ)) (opened failures : ℕ) : Option Fault → Type 0 where
  served : (m : State) (end : Option Fault) → IsStartedBy files (typed_in files o) o.machine m
      → IsServed o.machine.steps 18446744073709551615 typed (new_connection m) before after opened failures end →
      DebugsByGdb files typed o before after opened failures end
  not_served : (fault : Fault) → IsStartFault files (typed_in files o) (option_map (λ path. path.now) o.input) o.machine
      fault → Keeps before after → failures ≡ opened
      → DebugsByGdb files typed o before after opened failures (Some fault)
  unbuffered : Keeps before after → failures ≡ opened → DebugsByGdb files typed o before after opened failures
      (Some OutOfMemory)
