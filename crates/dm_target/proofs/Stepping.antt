-- Steps, and the instructions that they perform.
use Rattle.std.proofs.Common.{◌≡◌, ◌≢◌, ℕ, ◌<◌, List, Option, Some, None, refl, ap, subst, arith}
use Rattle.dm_ins.specs.Ins.{BeginsWith}
use Rattle.dm_ins.specs.declared.ins.Ins.{Ins}
use Rattle.dm_cpu.specs.declared.cpu.Cpu.{Cpu}
use Rattle.dm_decode.specs.Decoded.{Decodes}
use Rattle.dm_services.specs.declared.state.stop.Stop.TheVariants.{Exited, Unlisted, Steps as AllSteps}
use Rattle.dm_services.specs.state.State.{State, Answer}
use Rattle.dm_space.specs.declared.entry_points.EntryPoint.{EntryPoint}
use Rattle.dm_space.specs.EntryPoints.{entry_point_at}
use Rattle.dm_machine.specs.Step.{MakesStep, ActsUnlessEnded, Acts, Instructs, listed, unlisted, fetched}
use Rattle.dm_machine.specs.Run.{Goes, IsRun, Answers, over, whole, cut}
use Rattle.dm_machine.specs.Run as run
use Rattle.dm_machine.proofs.OneRun.{none-made}

pub no_entry_point : (c : Cpu) → c.cs < 0xF000 → entry_point_at c.cs c.ip ≡ None
unfolding entry_point_at
no_entry_point c h = grind arith

goes_unless : (s t : State) (o : Option ℕ) → ActsUnlessEnded s o (record { stop = None; state = t }) → o ≡ None
goes_unless s t None h = refl
goes_unless s t (Some code) e = (let stop : None ≡ Some (Exited code) = ap (λ (x : Answer). x.stop) e in cc)

still_running : (s t : State) → MakesStep s (record { stop = None; state = t }) → s.exited ≡ None
unfolding MakesStep
still_running s t h = goes_unless s t s.exited h

-- a step that was made is a run of one
pub run_one : (s t : State) → MakesStep s (record { stop = None; state = t }) → IsRun s 1 AllSteps t
run_one s t h = whole (still_running s t h) refl (run.further 0 s t run.here h)

-- the instruction of a step
pub record Begins (s : State) : Type 0 where
  pub ins : Ins
  pub length : ℕ
  pub begins : BeginsWith (fetched s.memory s.cpu) ins length

begins_by : (s : State) (x : Answer) → x.stop ≢ Some Unlisted → Instructs s x → Begins s
begins_by s x h (listed i k b f) = record { ins = i; length = k; begins = b }
begins_by s x h (unlisted none f) = absurd (h (ap (λ (y : Answer). y.stop) f))

acts_by : (s : State) (x : Answer) (o : Option EntryPoint) → x.stop ≢ Some Unlisted → o ≡ None → Acts s o x → Begins s
acts_by s x o h e a = begins_by s x h (subst (λ k. Acts s k x) e a)

running_by : (s : State) (x : Answer) (o : Option ℕ) → x.stop ≢ Some Unlisted →
    ((code : ℕ) → x.stop ≢ Some (Exited code)) → entry_point_at s.cpu.cs s.cpu.ip ≡ None → ActsUnlessEnded s o x →
    Begins s
running_by s x None h g e a = acts_by s x (entry_point_at s.cpu.cs s.cpu.ip) h e a
running_by s x (Some code) h g e a = absurd (g code (ap (λ (y : Answer). y.stop) a))

stepping_by : (s : State) (x : Answer) → x.stop ≢ Some Unlisted → ((code : ℕ) → x.stop ≢ Some (Exited code)) →
    entry_point_at s.cpu.cs s.cpu.ip ≡ None → MakesStep s x → Begins s
unfolding MakesStep
stepping_by s x h g e a = running_by s x s.exited h g e a

pub begins_of : (s t : State) → s.cpu.cs < 0xF000 → MakesStep s (record { stop = None; state = t }) → Begins s
begins_of s t below h = stepping_by s (record { stop = None; state = t }) (λ e. cc) (λ code e. cc)
    (no_entry_point s.cpu below) h

pub one_of : (s t : State) (n : ℕ) → Goes s n t → n ≡ 1 → MakesStep s (record { stop = None; state = t })
one_of s t n run.here e = absurd (omega arith)
one_of s t n (run.further k v u g h) e = (let F : State → Type 0 =
    λ x. MakesStep x (record { stop = None; state = t }) in subst F (none-made s v k g (omega arith)) h)

-- a run of one step that ended with all steps made performed an instruction, where nothing acts
pub performs : (s t : State) → entry_point_at s.cpu.cs s.cpu.ip ≡ None → IsRun s 1 AllSteps t → Begins s
performs s t none (over code e f g) = cc
performs s t none (whole e f g) = stepping_by s (record { stop = None; state = t }) (λ e. cc) (λ code e. cc) none
    (one_of s t 1 g refl)
performs s t none (cut e x) =
    let here : x.before ≡ s = none-made s x.before x.made x.goes (omega (arith, x.fewer)) in
    let F : State → Type 0 = λ v. MakesStep v (record { stop = Some AllSteps; state = t }) in
    stepping_by s (record { stop = Some AllSteps; state = t }) (λ e. cc) (λ code e. cc) none (subst F here x.answers)

-- what is decoded is the instruction with which the bytes begin
pub decoded_as : (bytes : List ℕ) (o : Option (Ins × ℕ)) (i : Ins) (k : ℕ) → Decodes bytes o → BeginsWith bytes i k →
    o ≡ Some (i, k)
decoded_as bytes o i k d b = (d i k).1 (b.short, b.spells)
