-- That console input may come in pieces: a program which does not ask how much of it is there makes the same steps as
-- with all of it from the start.
use Rattle.std.specs.Prelude.{◌≡◌, ◌+◌, ◌++◌, ◌==◌, ◌&&◌, ℕ, nat_lt, length, Bool, true, false, List, [], ◌∷◌, Option, Some, None}
use Rattle.std.specs.List.{concat}
use Rattle.dm_space.specs.declared.entry_points.EntryPoint.{EntryPoint}
use Rattle.dm_space.specs.declared.entry_points.EntryPoint.TheVariants as entry_point
use Rattle.dm_space.specs.declared.entry_points.Service.TheVariants as service
use Rattle.dm_space.specs.EntryPoints.{entry_point_at}
use Rattle.dm_ins.specs.declared.operand.ByteRegister.TheVariants.{Ah, Al, Dl}
use Rattle.dm_cpu.specs.Cpu.{byte_of}
use Rattle.dm_services.specs.declared.functions.Function.{Function}
use Rattle.dm_services.specs.declared.functions.Function.TheVariants as function
use Rattle.dm_services.specs.Functions.{function_of}
use Rattle.dm_services.specs.declared.state.stop.Stop.TheVariants.{InputEnded}
use Rattle.dm_services.specs.state.State.{Answer, State}
use Rattle.dm_machine.specs.Run.{Goes}
use Rattle.dm_machine.specs.Step.{MakesStep}

-- the state with these bytes after the console input that is left, and whether more may come after them
abbrev pub supplied : List ℕ → Bool → State → State
supplied bytes more s = record s { console = record s.console { input = s.console.input ++ bytes; more = more } }

-- the result of a step with these bytes after the input of its state
abbrev pub supplied_answer : List ℕ → Bool → Answer → Answer
supplied_answer bytes more x = record x { state = supplied bytes more x.state }

-- whether no input is left
abbrev pub is_used_up : List ℕ → Bool
is_used_up [] = true
is_used_up (byte ∷ rest) = false

-- whether function 06h returns that no input is left
abbrev pub polls_in_vain : State → Bool
polls_in_vain s = byte_of s.cpu Dl == 0xFF && is_used_up s.console.input

-- whether 0Ch returns that no input is left, by the function that AL names: only where that function does
abbrev pub polls_by : Function → State → Bool
polls_by function.DirectCharacter s = polls_in_vain s
polls_by _ s = false

-- whether a function of INT 21h returns, in this state, how much input there is: 0Bh that there is none, 06h (and 0Ch
-- with it) likewise, and 3Fh fewer bytes than CX
abbrev pub asks_by : State → Function → Bool
asks_by s function.EchoCharacter = false
asks_by s function.WriteCharacter = false
asks_by s function.DirectCharacter = polls_in_vain s
asks_by s function.DirectInput = false
asks_by s function.ReadCharacter = false
asks_by s function.WriteText = false
asks_by s function.ReadLine = false
asks_by s function.CheckInput = is_used_up s.console.input
asks_by s function.FlushAndRead = polls_by (function_of (byte_of s.cpu Al)) s
asks_by s function.SetVector = false
asks_by s function.Version = false
asks_by s function.Keep = false
asks_by s function.GetVector = false
asks_by s function.ReadHandle = nat_lt s.cpu.bx 3 && nat_lt (length s.console.input) s.cpu.cx
asks_by s function.WriteHandle = false
asks_by s function.Allocate = false
asks_by s function.Free = false
asks_by s function.Resize = false
asks_by s function.LoadProgram = false
asks_by s function.Exit = false
asks_by s function.ExitCode = false
asks_by s function.Process = false
asks_by s function.AllocationStrategy = false
asks_by s function.Terminate = false
asks_by s function.Unknown = false

-- the same, of what stands at CS:IP
abbrev pub asks_at : State → Option EntryPoint → Bool
asks_at s None = false
asks_at s (Some (entry_point.Driver driver)) = false
asks_at s (Some (entry_point.Service service.DivideError)) = false
asks_at s (Some (entry_point.Service service.Terminate)) = false
asks_at s (Some (entry_point.Service service.Dos)) = asks_by s (function_of (byte_of s.cpu Ah))

-- the step that is next asks how much input there is
abbrev pub asks : State → Bool
asks s = asks_at s (entry_point_at s.cpu.cs s.cpu.ip)

-- a step that does not ask how much input there is, and does not stop for want of it, is the same with more input after
-- it, whether or not still more may come
abbrev pub StepsTakeMoreInput : Type 0
StepsTakeMoreInput =
    (s : State) (x : Answer) (bytes : List ℕ) (more : Bool) → MakesStep s x → asks s ≡ false →
    (x.stop ≡ Some InputEnded → ⊥)
    → MakesStep (supplied bytes more s) (supplied_answer bytes more x)

-- n steps lead from s to this state; none of them ended the program, and none asked how much input there is
pub data GoesUnasked (s : State) : ℕ → State → Type 0 where
  here : GoesUnasked s 0 s
  further : (n : ℕ) (t u : State) → GoesUnasked s n t → asks t ≡ false →
      MakesStep t (record { stop = None; state = u }) → GoesUnasked s (n + 1) u

-- so many steps lead from the first state to the last, none of which ended the program or asked how much input there
-- is, where each of these pieces of input was supplied, one after another, between two of the steps
pub data GoesByPieces : State → List (List ℕ) → ℕ → State → Type 0 where
  whole : (s t : State) (n : ℕ) → GoesUnasked s n t → GoesByPieces s [] n t
  piece : (s t u : State) (n m : ℕ) (bytes : List ℕ) (pieces : List (List ℕ)) → GoesUnasked s n t →
      GoesByPieces (supplied bytes t.console.more t) pieces m u
      → GoesByPieces s (bytes ∷ pieces) (n + m) u

-- where a program runs on input that comes in pieces, and no step asks how much of it is there, the same steps are made
-- with all the pieces after the input from the start, whether or not more may come then
abbrev pub PiecesAreOneInput : Type 0
PiecesAreOneInput =
    (s t : State) (pieces : List (List ℕ)) (n : ℕ) (more : Bool) → GoesByPieces s pieces n t →
    Goes (supplied (concat pieces) more s) n (supplied [] more t)
