-- Steps, and the instructions that they perform.
use Rattle.std.proofs.Common.{◌≡◌, ℕ, ◌<◌, Option, Some, None, refl, sym, ◌∙◌, ap, subst, arith}
use Rattle.dm_space.specs.declared.entry_points.EntryPoint.{EntryPoint}
use Rattle.dm_space.specs.EntryPoints.{entry_point_at}
use Rattle.dm_ins.specs.Ins.{BeginsWith}
use Rattle.dm_ins.specs.declared.ins.Ins.{Ins}
use Rattle.dm_cpu.specs.declared.cpu.Cpu.{Cpu}
use Rattle.dm_cpu.specs.Guest.{Guest, guest}
use Rattle.dm_exec.specs.declared.effect.Next.{Next}
use Rattle.dm_exec.specs.declared.effect.Next.TheVariants.{Go, Halt}
use Rattle.dm_exec.specs.Effect.{effect, next_of}
use Rattle.dm_services.specs.declared.state.stop.Stop.TheVariants.{Exited, Halted, Unlisted, Steps as AllSteps}
use Rattle.dm_services.specs.state.State.{State, Answer}
use Rattle.dm_machine.specs.Step.{MakesStep, ActsUnlessEnded, Acts, Instructs, listed, unlisted, fetched, after, instructed}
use Rattle.dm_machine.specs.Run.{IsRun, whole}
use Rattle.dm_machine.specs.Run as run
use Rattle.dm_machine.proofs.OneRun.{steps-one}

goes_unless : (s t : State) (o : Option ℕ) → ActsUnlessEnded s o (record { stop = None; state = t }) → o ≡ None
goes_unless s t None h = refl
goes_unless s t (Some code) e = (let stop : None ≡ Some (Exited code) = ap (λ (x : Answer). x.stop) e in cc)

still_running : (s t : State) → MakesStep s (record { stop = None; state = t }) → s.exited ≡ None
unfolding MakesStep
still_running s t h = goes_unless s t s.exited h

-- a step that was made is a run of one
pub run_one : (s t : State) → MakesStep s (record { stop = None; state = t }) → IsRun s 1 AllSteps t
run_one s t h = whole (still_running s t h) refl (run.further 0 s t run.here h)

no_entry_point : (c : Cpu) → c.cs < 0xF000 → entry_point_at c.cs c.ip ≡ None
unfolding entry_point_at
no_entry_point c h = grind arith

steps_by : (s : State) (x : Answer) → s.exited ≡ None → s.cpu.cs < 0xF000 → Instructs s x → MakesStep s x
unfolding MakesStep
steps_by s x e below h = subst (λ o. ActsUnlessEnded s o x) (sym e) (subst (λ o. Acts s o x)
    (sym (no_entry_point s.cpu below)) h)

leaves_after : (s t : State) (n : Next) (g : Guest) → record { stop = None; state = t } ≡ after s n g →
    t.memory ≡ g.memory
leaves_after s t Go g e = ap (λ (x : Answer). x.state.memory) e
leaves_after s t Halt g e = (let stop : None ≡ Some Halted = ap (λ (x : Answer). x.stop) e in cc)

-- after a step of an instruction memory is what its effect leaves
pub next_leaves : (s t : State) (i : Ins) (k : ℕ) → s.cpu.cs < 0xF000 → BeginsWith (fetched s.memory s.cpu) i k →
    MakesStep s (record { stop = None; state = t }) → t.memory ≡ (effect (guest s.cpu s.memory) i k).memory
next_leaves s t i k below begins h =
    let x : Answer = instructed s i k in
    let steps : MakesStep s x = steps_by s x (still_running s t h) below (listed i k begins refl) in
    leaves_after s t (next_of i.action.mnemonic) (effect (guest s.cpu s.memory) i k) (steps-one s _ x h steps)

-- the instruction of a step that was made
pub record Begins (s : State) : Type 0 where
  pub ins : Ins
  pub length : ℕ
  pub begins : BeginsWith (fetched s.memory s.cpu) ins length

begins_by : (s t : State) (x : Answer) → x ≡ record { stop = None; state = t } → Instructs s x → Begins s
begins_by s t x e (listed i k b f) = record { ins = i; length = k; begins = b }
begins_by s t x e (unlisted none f) = (let stop : Some Unlisted ≡ None = ap (λ (y : Answer). y.stop) (sym f ∙ e) in cc)

acts_by : (s t : State) (o : Option EntryPoint) → o ≡ None → Acts s o (record { stop = None; state = t }) → Begins s
acts_by s t o e h = begins_by s t (record { stop = None; state = t }) refl
    (subst (λ k. Acts s k (record { stop = None; state = t })) e h)

running_by : (s t : State) (o : Option ℕ) → s.cpu.cs < 0xF000 → ActsUnlessEnded s o (record {
  stop = None;
  state = t;
}) → Begins s
running_by s t None below h = acts_by s t (entry_point_at s.cpu.cs s.cpu.ip) (no_entry_point s.cpu below) h
running_by s t (Some code) below e = (let stop : None ≡ Some (Exited code) = ap (λ (x : Answer). x.stop) e in cc)

pub begins_of : (s t : State) → s.cpu.cs < 0xF000 → MakesStep s (record { stop = None; state = t }) → Begins s
unfolding MakesStep
begins_of s t below h = running_by s t s.exited below h
