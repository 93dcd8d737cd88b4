-- No step lowers the room by more bytes than it writes
use Rattle.std.proofs.Common.{◌≡◌, ℕ, ◌<◌, ◌≤◌, length, Option, Some, None, sym, subst, arith}
use Rattle.dm_exec.specs.declared.effect.Next.{Next}
use Rattle.dm_exec.specs.declared.effect.Next.TheVariants.{Go, Halt}
use Rattle.dm_cpu.specs.Guest.{Guest, guest}
use Rattle.dm_exec.specs.Effect.{effect, next_of}
use Rattle.dm_services.specs.declared.state.stop.Stop.{Stop}
use Rattle.dm_services.specs.declared.state.stop.Stop.TheVariants.{Memory as NoMemory}
use Rattle.dm_space.specs.declared.entry_points.EntryPoint.{EntryPoint}
use Rattle.dm_space.specs.declared.entry_points.EntryPoint.TheVariants as entry_point
use Rattle.dm_space.specs.EntryPoints.{entry_point_at}
use Rattle.dm_space.specs.declared.entry_points.Driver.TheVariants.{ExpandedMemory, Multiplex, ExtendedMemory}
use Rattle.dm_services.specs.state.State.{State, Answer}
use Rattle.dm_machine.specs.Step.{MakesStep, ActsUnlessEnded, Acts, Instructs, listed, unlisted, after}
use Rattle.dm_machine.specs.Run.{Answers, Goes, here, further, IsRun, over, whole, cut}
use Rattle.dm_machine.specs.Laws.{IsHistory, none, step_on, run_on, changed, reserved, RoomIsEnoughForRuns, RoomIsEnoughForSteps}
use Rattle.dm_machine.proofs.OneRun.{steps-one}
use Rattle.dm_services.specs.inner.Laws.{limit}
use Rattle.dm_services.proofs.Rooms.{Keeps, same, by, serves-keep}

after-keeps : (s : State) (n : Next) (g : Guest) → Keeps s (after s n g)
after-keeps s Go g = same _
after-keeps s Halt g = same _

instructs-keep : (s : State) (x : Answer) → Instructs s x → Keeps s x
instructs-keep s x (listed i k b e) = by s x _ e (after-keeps s (next_of i.action.mnemonic)
    (effect (guest s.cpu s.memory) i k))
instructs-keep s x (unlisted h e) = by s x _ e (same _)

acts-keep : (s : State) (o : Option EntryPoint) (x : Answer) → Acts s o x → Keeps s x
acts-keep s (Some (entry_point.Service service)) x h = serves-keep s service x h
acts-keep s (Some (entry_point.Driver ExpandedMemory)) x e = by s x _ e (same _)
acts-keep s (Some (entry_point.Driver Multiplex)) x e = by s x _ e (same _)
acts-keep s (Some (entry_point.Driver ExtendedMemory)) x e = by s x _ e (same _)
acts-keep s None x h = instructs-keep s x h

runs-keep : (s : State) (o : Option ℕ) (x : Answer) → ActsUnlessEnded s o x → Keeps s x
runs-keep s (Some code) x e = by s x _ e (same _)
runs-keep s None x h = acts-keep s (entry_point_at s.cpu.cs s.cpu.ip) x h

steps-keep : (s : State) (x : Answer) → MakesStep s x → Keeps s x
unfolding MakesStep
steps-keep s x h = runs-keep s s.exited x h

goes-keep : (s t : State) (n : ℕ) → Goes s n t → limit s.console ≤ limit t.console
goes-keep s t n here = same _
goes-keep s t n (further m r v goes h) =
    let before = goes-keep s r m goes in
    let more = steps-keep r _ h in
    omega (arith, before, more)

answers-keep : (s : State) (stop : Option Stop) (t : State) → Answers s stop t → limit s.console ≤ limit t.console
answers-keep s (Some NoMemory) t h = subst (λ (u : State). limit s.console ≤ limit u.console) (sym h.1) (same _)
answers-keep s (Some stop) t h = steps-keep s _ h
answers-keep s None t h = steps-keep s _ h

run-keeps : (s t : State) (n : ℕ) (stop : Stop) → IsRun s n stop t → limit s.console ≤ limit t.console
run-keeps s t n stop (over code e g h) = subst (λ (u : State). limit s.console ≤ limit u.console) (sym h) (same _)
run-keeps s t n stop (whole e g goes) = goes-keep s t n goes
run-keeps s t n stop (cut e w) =
    let before = goes-keep s w.before w.made w.goes in
    let last = answers-keep w.before (Some stop) t w.answers in
    omega (arith, before, last)

follows-keep : (s t : State) → IsHistory s t → limit s.console ≤ limit t.console
follows-keep s t none = same _
follows-keep s t (step_on r u stop f answers) =
    let before = follows-keep s r f in
    let last = answers-keep r stop u answers in
    omega (arith, before, last)
follows-keep s t (run_on r u n stop f run) =
    let before = follows-keep s r f in
    let last = run-keeps r u n stop run in
    omega (arith, before, last)
follows-keep s t (changed r m f) = follows-keep s r f
follows-keep s t (reserved r n f) = (let before = follows-keep s r f in omega (arith, before))

-- the step at which memory is wanting
step-wants : (s t : State) (x : Answer) → Answers s (Some NoMemory) t → MakesStep t x →
    limit s.console < length x.state.console.output
step-wants s t x answers step =
    let want = answers.0 in
    let one : x ≡ want.answer = steps-one s x want.answer (subst (λ u. MakesStep u x) answers.1 step) want.gives in
    subst (λ (y : Answer). limit s.console < length y.state.console.output) (sym one) want.overflows

run-wants : (s t : State) (n : ℕ) (x : Answer) → IsRun s n NoMemory t → MakesStep t x →
    limit s.console < length x.state.console.output
run-wants s t n x (over code e g h) step = cc
run-wants s t n x (whole e g goes) step = cc
run-wants s t n x (cut e w) step =
    let before = goes-keep s w.before w.made w.goes in
    let more = step-wants w.before t x w.answers step in
    omega (arith, before, more)

pub room-enough_for_runs : RoomIsEnoughForRuns
room-enough_for_runs bytes s t u n h f run x step =
    let before = follows-keep s t f in
    let more = run-wants t u n x run step in
    omega (arith, before, more)

pub room-enough_for_steps : RoomIsEnoughForSteps
room-enough_for_steps bytes s t u h f answers x step =
    let before = follows-keep s t f in
    let more = step-wants t u x answers step in
    omega (arith, before, more)
