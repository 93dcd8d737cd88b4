-- Going back a step, and which watchpoint the step hit.
-- Source: GDB manual, "GDB Remote Serial Protocol", "Packets" (`bs`) and "Stop Reply Packets".
use Rattle.std.specs.Prelude.{◌≡◌, ◌<◌, ◌≤◌, ◌-◌, ℕ, List, Option, Some, None}
use Rattle.std.specs.List.{find}
use Rattle.dm_space.specs.declared.entry_points.EntryPoint.{EntryPoint}
use Rattle.dm_space.specs.EntryPoints.{entry_point_at}
use Rattle.dm_ins.specs.declared.ins.Ins.{Ins}
use Rattle.dm_ins.specs.Ins.{BeginsWith}
use Rattle.dm_cpu.specs.Guest.{guest}
use Rattle.dm_touches.specs.Touches.{reads, writes}
use Rattle.dm_requests.specs.declared.request.Point.{Point}
use Rattle.dm_services.specs.state.State.{State}
use Rattle.dm_machine.specs.Step.{fetched}
use Rattle.dm_history.specs.Timelines.{Timeline, GoesBack}
use Rattle.dm_target.specs.declared.undoing.Undone.{Undone}
use Rattle.dm_target.specs.declared.undoing.Undone.TheVariants.{Begun, Back, Hit}
use Rattle.dm_target.specs.Watching.{is_changed, is_touched}

-- the first of these watchpoints, in their order, that the step from s hit, which led to t; None if it hit none. A
-- service or driver acts in the step (`acted`), or an instruction is performed (`performed`)
pub record HitBy (watches : List Point) (s t : State) (hit : Option Point) : Type 0 where
  pub acted : (what : EntryPoint) → entry_point_at s.cpu.cs s.cpu.ip ≡ Some what →
      hit ≡ find (is_changed t.memory s.memory) watches
  pub performed : (i : Ins) (length : ℕ) → entry_point_at s.cpu.cs s.cpu.ip ≡ None →
      BeginsWith (fetched s.memory s.cpu) i length
      → hit ≡ find (is_touched s.memory.a20 (reads (guest s.cpu s.memory) i length)
      (writes (guest s.cpu s.memory) i length)) watches

-- what a step that hit this, or nothing, is told as
abbrev pub undone_by : Option Point → Undone
undone_by None = Back
undone_by (Some point) = Hit point

-- the history p goes back a step and becomes this one, unless it begins at its present state; and what is told of the
-- step
pub data Undoes (watches : List Point) (p : Timeline) : Undone → Timeline → Type 0 where
  begun : p.machine.steps ≤ p.beginning.steps → Undoes watches p Begun p
  undone : (hit : Option Point) (q : Timeline) → p.beginning.steps < p.machine.steps → GoesBack p (p.machine.steps - 1) q →
      HitBy watches q.machine p.machine hit
      → Undoes watches p (undone_by hit) q
