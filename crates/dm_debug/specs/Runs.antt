-- What the debugger's commands G and T do, and what they print.
-- Source: MS-DOS User's Reference, "DEBUG" (Go, Trace). The words are this machine's own.
use Rattle.std.specs.Prelude.{◌≡◌, ℕ, ◌+◌, ◌<◌, ◌≤◌, List, [], ◌∷◌, ◌++◌, codes, Option, Some, None}
use Rattle.dm_services.specs.declared.state.stop.Stop.{Stop}
use Rattle.dm_services.specs.declared.state.stop.Stop.TheVariants as stop
use Rattle.dm_services.specs.state.State.{State}
use Rattle.dm_machine.specs.declared.until.Breakpoint.{Breakpoint}
use Rattle.dm_machine.specs.Run.{Answers}
use Rattle.dm_machine.specs.Until.{RunsUntil}
use Rattle.dm_views.specs.Digits.{two_digits}
use Rattle.dm_views.specs.Registers.{IsRegistersText}

-- the word that G and T print for the end of a run: for None, a breakpoint, `break`; for an exit `exited ` without the
-- code
abbrev pub stop_text : Option Stop → List ℕ
stop_text None = codes "break"
stop_text (Some stop.Steps) = codes "steps"
stop_text (Some (stop.Exited code)) = codes "exited "
stop_text (Some stop.Halted) = codes "halted"
stop_text (Some stop.Unlisted) = codes "unlisted"
stop_text (Some stop.InputEnded) = codes "input ended"
stop_text (Some stop.Destroyed) = codes "destroyed"
stop_text (Some stop.Memory) = codes "memory"

-- the exit code, in two hexadecimal digits; no text if the run ended otherwise
abbrev pub code_text : Option Stop → List ℕ
code_text (Some (stop.Exited code)) = two_digits code
code_text _ = []

-- the line that says why a run ended; None is a breakpoint
abbrev pub stop_line : Option Stop → List ℕ
stop_line why = stop_text why ++ code_text why ++ 10 ∷ []

-- G: a run of at most n steps up to a breakpoint or a stop leads from s to t, and prints why it ended, and the
-- registers
pub record GoesTo (s : State) (n : ℕ) (points : List Breakpoint) (text : List ℕ) (t : State) : Type 0 where
  pub why : Option Stop
  pub registers : List ℕ
  pub runs : RunsUntil s n points why t
  pub shown : IsRegistersText t.cpu t.memory registers
  pub is : text ≡ stop_line why ++ registers

-- n steps lead from s to this state, none of them ended the program, and this text is the registers after each
pub data Traces (s : State) : ℕ → List ℕ → State → Type 0 where
  none : Traces s 0 [] s
  more : (n : ℕ) (t u : State) (text registers : List ℕ) → Traces s n text t → Answers t None u →
      IsRegistersText u.cpu u.memory registers → Traces s (n + 1) (text ++ registers) u

-- T: n steps lead from s to t, and the registers after each are printed; or fewer steps were made, a stop followed that
-- left t, and its line is printed after the registers
pub data IsTrace (s : State) (n : ℕ) (text : List ℕ) (t : State) : Type 0 where
  whole : Traces s n text t → IsTrace s n text t
  cut : (made : ℕ) (before : State) (told : List ℕ) (why : Stop) → made < n → Traces s made told before →
      Answers before (Some why) t → text ≡ told ++ stop_line (Some why) → IsTrace s n text t

-- a trace of n steps from s that a failed allocation ends leaves t: after at most n steps, or after the stop that
-- followed fewer
pub data TracesPart (s : State) (n : ℕ) (t : State) : Type 0 where
  some : (made : ℕ) (told : List ℕ) → made ≤ n → Traces s made told t → TracesPart s n t
  next : (made : ℕ) (before : State) (told : List ℕ) → made < n → Traces s made told before → Answers before None t →
      TracesPart s n t
  stopped : (made : ℕ) (before : State) (told : List ℕ) (why : Stop) → made < n → Traces s made told before →
      Answers before (Some why) t → TracesPart s n t
