-- A host: a machine as a host program drives it.
use Rattle.std.specs.Prelude.{◌≡◌, ℕ, List, [], Option, Some, None}
use Rattle.dm_services.specs.state.State.{State}
use Rattle.dm_debug.specs.Debugged.{Debugged}
use Rattle.dm_findings.specs.Report.{Reported}
use Rattle.dm_host.specs.declared.host.Stage.{Stage}
use Rattle.dm_host.specs.declared.host.Stage.TheVariants.{Fresh, Loaded, Spent}
use Rattle.dm_host.specs.declared.refusal.Refusal.{Refusal}
use Rattle.dm_host.specs.declared.refusal.Refusal.TheVariants.{NotLoaded, Memory}
use Rattle.dm_host.specs.Setups.{Prepared}

-- a host: the stage that its machine is at, the answer of the last command or checked run that had one, and the report
-- of the last checked run that had one
pub record Hosted : Type 0 where
  pub stage : Stage
  pub answer : List ℕ
  pub report : Reported

-- a report of no findings
abbrev pub no_report : Reported
no_report = record { listed = []; errors = 0; notes = 0; omitted = 0 }

-- the host with this setup, no program loaded, no answer and no report
abbrev pub new_host : Prepared → Hosted
new_host s = record { stage = Fresh s; answer = []; report = no_report }

-- the host with its machine at another stage; answer and report stay
abbrev pub with_stage : Hosted → Stage → Hosted
with_stage h stage = record h { stage = stage }

-- the machine at a stage; None if no program is loaded
abbrev pub machine_of : Stage → Option State
machine_of (Fresh s) = None
machine_of (Loaded s) = Some s.machine
machine_of Spent = None

-- a program is loaded in the host h, and P holds between its session before and after; the host g has the session
-- after, and nothing else has changed
pub record Works (h : Hosted) (P : Debugged → Debugged → Type 0) (g : Hosted) : Type 0 where
  pub before : Debugged
  pub after : Debugged
  pub loaded : h.stage ≡ Loaded before
  pub does : P before after
  pub is : g ≡ with_stage h (Loaded after)

-- a program is loaded in the host, and P holds of its machine
pub record Shows (h : Hosted) (P : State → Type 0) : Type 0 where
  pub machine : State
  pub loaded : machine_of h.stage ≡ Some machine
  pub shows : P machine

-- no program is loaded in the host, and the refusal is `NotLoaded`
abbrev pub IsNotLoaded : Hosted → Refusal → Type 0
IsNotLoaded h e = (e ≡ NotLoaded) × (machine_of h.stage ≡ None)

-- why nothing is listed, in this order: no program is loaded; an allocation failed
pub data IsNotListed (h : Hosted) (why : Refusal) : Type 0 where
  not_loaded : IsNotLoaded h why → IsNotListed h why
  no_memory : Shows h (λ s. Unit {0}) → why ≡ Memory → IsNotListed h why
