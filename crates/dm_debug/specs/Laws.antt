-- Laws of G and T in a debugging session: what they print and leave is determined by the state, unless an allocation
-- failed.
use Rattle.std.specs.Prelude.{◌≡◌, ◌≢◌, ℕ, List, Option, Some, None}
use Rattle.dm_services.specs.declared.state.stop.Stop.{Stop}
use Rattle.dm_services.specs.declared.state.stop.Stop.TheVariants.{Memory as NoMemory}
use Rattle.dm_services.specs.state.State.{State}
use Rattle.dm_machine.specs.declared.until.Breakpoint.{Breakpoint}
use Rattle.dm_debug.specs.Runs.{GoesTo, IsTrace, whole, cut}

-- G from one state, with the same limit of steps and the same breakpoints, prints one text and leaves one state, if no
-- allocation failed
abbrev pub GoHasOneAnswer : Type 0
GoHasOneAnswer =
    (s t u : State) (n : ℕ) (points : List Breakpoint) (a b : List ℕ) (x : GoesTo s n points a t)
    (y : GoesTo s n points b u) →
    x.why ≢ Some NoMemory → y.why ≢ Some NoMemory → (a ≡ b) × (t ≡ u)

-- the stop that cut a trace short; None if all steps were made
abbrev pub cut_by : (s : State) (n : ℕ) (text : List ℕ) (t : State) → IsTrace s n text t → Option Stop
cut_by s n text t (whole traces) = None
cut_by s n text t (cut made before told why fewer traces answers is) = Some why

-- T from one state, with the same limit of steps, prints one text and leaves one state, if no allocation failed
abbrev pub TraceHasOneAnswer : Type 0
TraceHasOneAnswer =
    (s t u : State) (n : ℕ) (a b : List ℕ) (x : IsTrace s n a t) (y : IsTrace s n b u) →
    cut_by s n a t x ≢ Some NoMemory → cut_by s n b u y ≢ Some NoMemory → (a ≡ b) × (t ≡ u)
