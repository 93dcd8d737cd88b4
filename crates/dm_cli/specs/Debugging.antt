-- What `dm debug` does with the lines of its standard input, and what it writes.
use Rattle.std.specs.Prelude.{Bool, ℕ, ◌≡◌, ◌≢◌, ◌-◌, ◌<◌, ◌≤◌, ◌++◌, ◌⊎◌, true, false, List, [], ◌∷◌, Option, Some, None, IfSome, option_map, codes, length, take}
use Rattle.std.specs.Io.BufRead.{take_through, drop_through, first_piece}
use Rattle.std.specs.Io.KnownBytes.{Appends, Keeps}
use Rattle.dm_requests.specs.declared.commands.command.Command.{Command}
use Rattle.dm_requests.specs.commands.Commands.{command_of}
use Rattle.dm_debug.specs.Debugged.{Debugged}
use Rattle.dm_debug.specs.Sessions.{Does, IsCutOff, is_syntax, is_full, new_session}
use Rattle.dm_options.specs.declared.command_line.DebugOptions.{DebugOptions}
use Rattle.dm_console.specs.writers.Out.{HasFailed}
use Rattle.dm_services.specs.state.State.{State}
use Rattle.dm_cli.specs.Faults.{IsReadFault, IsWriteFault}
use Rattle.dm_cli.specs.Starting.{IsStartedBy, IsStartFault, typed_in}
use Rattle.dm_cli.specs.declared.fault.Fault.{Fault}
use Rattle.dm_cli.specs.declared.fault.Fault.TheVariants.{InputTooLong, OutOfMemory}

-- ---- one line

-- the line ends the session: it is `Q` or `q` alone
abbrev pub IsQuit : List ℕ → Type 0
IsQuit line = (line ≡ 81 ∷ []) ⊎ (line ≡ 113 ∷ [])

-- what is printed for a line, and the session after it: the output of the command; or the error of a line that is
-- rejected, which leaves the session as it is
pub data Tells (s : Debugged) (line : List ℕ) : Debugged → List ℕ → Type 0 where
  answered : (command : Command) (t : Debugged) (text : List ℕ) → command_of line ≡ Some command →
      is_syntax s (Some command) ≡ false → is_full s (Some command) ≡ false → Does s command text t →
      Tells s line t text
  no_command : is_syntax s (command_of line) ≡ true → Tells s line s (codes "? syntax" ++ 10 ∷ [])
  no_room : is_full s (command_of line) ≡ true → Tells s line s (codes "? full" ++ 10 ∷ [])

-- ---- the lines of a text

-- The lines of a text are executed one after the other, up to its end or a line that ends the session. A line ends with
-- 0Ah, or with the text; the lines may have n bytes in all, their 0Ah included. The arguments after session and text
-- are: what is written; the session after that; the fault that ended it early, if any; and whether all answers were
-- written whole and flushed.
pub data Converses : ℕ → Debugged → List ℕ → List ℕ → Debugged → Option Fault → Bool → Type 0 where
  ended : (n : ℕ) (s : Debugged) → Converses n s [] [] s None true
  quits : (n : ℕ) (s : Debugged) (text : List ℕ) → length (take_through 10 text) ≤ n → IsQuit (first_piece 10 text) →
      Converses n s text [] s None true
  answers : (n : ℕ) (s t u : Debugged) (text told more : List ℕ) (end : Option Fault) (whole : Bool) → text ≢ [] →
      length (take_through 10 text) ≤ n
      → ¬ IsQuit (first_piece 10 text) → Tells s (first_piece 10 text) t told
      → Converses (n - length (take_through 10 text)) t (drop_through 10 text) more u end whole →
      Converses n s text (told ++ more) u end whole
  too_long : (n : ℕ) (s : Debugged) (text : List ℕ) → n < length (take_through 10 text) →
      Converses n s text [] s (Some InputTooLong) true
  unread : (n : ℕ) (s : Debugged) (text : List ℕ) (fault : Fault) → IsReadFault fault →
      Converses n s text [] s (Some fault) true
  no_memory : (n : ℕ) (s : Debugged) (text : List ℕ) → Converses n s text [] s (Some OutOfMemory) true
  cut_off : (n : ℕ) (s t : Debugged) (text : List ℕ) → text ≢ [] → length (take_through 10 text) ≤ n →
      ¬ IsQuit (first_piece 10 text)
      → IsCutOff s (first_piece 10 text) t → Converses n s text [] t (Some OutOfMemory) true
  unwritten : (n : ℕ) (s t : Debugged) (text told : List ℕ) (k : ℕ) (fault : Fault) → text ≢ [] →
      length (take_through 10 text) ≤ n
      → ¬ IsQuit (first_piece 10 text) → Tells s (first_piece 10 text) t told → k ≤ length told → IsWriteFault fault
      → Converses n s text (take k told) t (Some fault) false
  not_handed_on : (n : ℕ) (s t : Debugged) (text told : List ℕ) (fault : Fault) → text ≢ [] →
      length (take_through 10 text) ≤ n
      → ¬ IsQuit (first_piece 10 text) → Tells s (first_piece 10 text) t told → IsWriteFault fault →
      Converses n s text told t (Some fault) false

-- the session s executes the lines of a reader, which may have n bytes in all, and becomes t; `end` is the fault that
-- ended it early, if any. `known` is what the reader has, where that is known; `before` and `after` are what the writer
-- has taken; `opened` and `failures` are the counts of its failures before and after. The count rises, unless it is at
-- its highest, exactly if an answer was not written whole or not flushed
pub record IsConversation (n : ℕ) (known : Option (List ℕ)) (s t : Debugged) (before after : Option (List ℕ))
    (opened failures : ℕ) (end : Option Fault) : Type 0 where
  pub text : List ℕ
  pub told : List ℕ
  pub whole : Bool
  pub read : IfSome known (λ xs. text ≡ xs)
  pub converses : Converses n s text told t end whole
  pub written : Appends before after told
  pub failed : whole ≡ false → HasFailed opened failures
  pub none_failed : whole ≡ true → failures ≡ opened

-- ---- the command

-- `dm debug`: the answers to the lines of standard input, which may have 16 MiB in all, up to a fault if there is one;
-- or a fault before the first line, and nothing is written
pub data Debugs (files : List ℕ → Option (List ℕ)) (typed : Option (List ℕ)) (o : DebugOptions)
    (before after : Option (List ℕ)) (opened failures : ℕ) : Option Fault → Type 0 where
  conversed : (m : State) (t : Debugged) (end : Option Fault) → IsStartedBy files (typed_in files o) o.machine m
      → IsConversation 16777216 typed (new_session m) t before after opened failures end →
      Debugs files typed o before after opened failures end
  not_begun : (fault : Fault) → IsStartFault files (typed_in files o) (option_map (λ path. path.now) o.input) o.machine
      fault → Keeps before after → failures ≡ opened
      → Debugs files typed o before after opened failures (Some fault)
  no_buffer : Keeps before after → failures ≡ opened → Debugs files typed o before after opened failures
      (Some OutOfMemory)
