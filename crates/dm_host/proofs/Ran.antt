-- From what a run up to events says of a machine to what is said of its session.
use Rattle.std.proofs.Common.{◌≡◌, ℕ, List, refl, sym, ◌∙◌, ap, subst}
use Rattle.dm_services.specs.state.State.{State}
use Rattle.dm_machine.specs.declared.until.Breakpoint.{Breakpoint}
use Rattle.dm_debug.specs.declared.stops.events.Event.{Event}
use Rattle.dm_debug.specs.declared.stops.going.RunEnd.{RunEnd}
use Rattle.dm_debug.specs.stops.Runs.{RunsTo}
use Rattle.dm_debug.specs.Debugged.{Debugged}
use Rattle.dm_host.specs.Events.{RunsSession}

abbrev over : State → List Breakpoint → Debugged
over m points = record { machine = m; points = points }

pub ran : (s t : Debugged) (m u : State) (points : List Breakpoint) (n : ℕ) (events : List Event) (ending : RunEnd) →
    s ≡ over m points → t ≡ over u points → RunsTo m n events ending u → RunsSession s n events ending t
ran s t m u points n events ending before after run =
    subst (λ (x : Debugged). RunsSession x n events ending t) (sym before)
    (subst (λ (x : Debugged). RunsSession (over m points) n events ending x) (sym after) (run, refl))

pub stayed : (s t : Debugged) (m u : State) (points : List Breakpoint) → s ≡ over m points → t ≡ over u points → u ≡ m →
    t ≡ s
stayed s t m u points before after same = after ∙ ap (λ (x : State). over x points) same ∙ sym before
