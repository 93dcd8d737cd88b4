-- A run doesn't depend on what no program sees
use Rattle.std.proofs.Common.{◌≡◌, ℕ, ◌+◌, ◌≤◌, arith, Option, Some, None, refl, sym, ◌∙◌, ap, subst}
use Rattle.dm_space.specs.Memory.{Memory}
use Rattle.dm_space.specs.EightBytes.{sixteen_after}
use Rattle.dm_space.specs.Unseen.{unseen_as, IsUnseen}
use Rattle.dm_ins.specs.declared.ins.Ins.{Ins}
use Rattle.dm_cpu.specs.declared.cpu.Cpu.{Cpu}
use Rattle.dm_exec.specs.declared.effect.Next.{Next}
use Rattle.dm_exec.specs.declared.effect.Next.TheVariants.{Go, Halt}
use Rattle.dm_cpu.specs.Guest.{Guest, guest}
use Rattle.dm_exec.specs.Effect.{effect, next_of}
use Rattle.dm_cpu.specs.Unseen.{changed}
use Rattle.dm_cpu.proofs.Unseen.{interrupt_return-unseen}
use Rattle.dm_exec.proofs.Unseen.{effect-unseen}
use Rattle.dm_space.proofs.Unseen.{pages-unseen}
use Rattle.dm_services.specs.declared.state.stop.Stop.{Stop}
use Rattle.dm_services.specs.declared.state.stop.Stop.TheVariants.{Memory as NoMemory}
use Rattle.dm_space.specs.declared.entry_points.EntryPoint.{EntryPoint}
use Rattle.dm_space.specs.declared.entry_points.EntryPoint.TheVariants as entry_point
use Rattle.dm_space.specs.EntryPoints.{entry_point_at}
use Rattle.dm_space.specs.declared.entry_points.Driver.TheVariants.{ExpandedMemory, Multiplex, ExtendedMemory}
use Rattle.dm_drivers.specs.Multiplex.{multiplex_reply}
use Rattle.dm_drivers.specs.Drivers.{driven}
use Rattle.dm_services.specs.state.State.{State, Answer, go, with_guest}
use Rattle.dm_services.specs.Wanting.{MayWant}
use Rattle.dm_machine.specs.Step.{MakesStep, ActsUnlessEnded, Acts, Instructs, listed, unlisted, fetched, after, instructed}
use Rattle.dm_ins.specs.Ins.{BeginsWith}
use Rattle.dm_machine.specs.Run.{Answers, here, further, StopsWithin, over, whole, cut}
use Rattle.dm_services.specs.Laws.{with_change}
use Rattle.dm_services.specs.inner.Laws.{answer_with}
use Rattle.dm_machine.specs.Laws.{KeepsWhatIsSeen, StaysQuiet, UnseenBytesChangeNoStep, UnseenBytesChangeNoRun, UnseenBlocksChangeNoRun}
use Rattle.dm_services.proofs.Unseen.{serves-unseen}

fetched-unseen : (f : Memory → Memory) (u : IsUnseen f) (m : Memory) (c : Cpu) → fetched (f m) c ≡ fetched m c
unfolding sixteen_after
fetched-unseen f u m c = simp (u.a20, u.peek_same)

after-unseen : (f : Memory → Memory) (s : State) (n : Next) (g : Guest) → after (with_change f s) n (changed f g)
    ≡ answer_with f (after s n g)
after-unseen f s Go g = refl
after-unseen f s Halt g = refl

instructed-unseen : (f : Memory → Memory) (u : IsUnseen f) (s : State) (i : Ins) (k : ℕ) →
    instructed (with_change f s) i k ≡ answer_with f (instructed s i k)
instructed-unseen f u s i k =
    ap (after (with_change f s) (next_of i.action.mnemonic)) (effect-unseen f u (guest s.cpu s.memory) i k)
    ∙ after-unseen f s (next_of i.action.mnemonic) (effect (guest s.cpu s.memory) i k)

instructs-unseen : (f : Memory → Memory) (u : IsUnseen f) (s : State) (x : Answer) → Instructs s x →
    Instructs (with_change f s) (answer_with f x)
instructs-unseen f u s x (listed i k b e) =
    listed i k (subst (λ xs. BeginsWith xs i k) (sym (fetched-unseen f u s.memory s.cpu)) b) (ap (answer_with f) e
    ∙ sym (instructed-unseen f u s i k))
instructs-unseen f u s x (unlisted h e) =
    unlisted (λ i k b. h i k (subst (λ xs. BeginsWith xs i k) (fetched-unseen f u s.memory s.cpu) b))
    (ap (answer_with f) e)

-- INT 2Fh changes registers alone
multiplex-unseen : (f : Memory → Memory) (u : IsUnseen f) (s : State) → driven (with_change f s) Multiplex
    ≡ answer_with f (driven s Multiplex)
multiplex-unseen f u s = ap (λ (g : Guest). go (with_guest s g)) (interrupt_return-unseen f u
    (guest (multiplex_reply s.cpu) s.memory))

acts-unseen : (f : Memory → Memory) (u : IsUnseen f) (s : State) (o : Option EntryPoint) (x : Answer) →
    KeepsWhatIsSeen o → Acts s o x → Acts (with_change f s) o (answer_with f x)
acts-unseen f u s (Some (entry_point.Service service)) x q h = serves-unseen f u s service x h
acts-unseen f u s (Some (entry_point.Driver ExpandedMemory)) x q e = absurd q
acts-unseen f u s (Some (entry_point.Driver ExtendedMemory)) x q e = absurd q
acts-unseen f u s (Some (entry_point.Driver Multiplex)) x q e = ap (answer_with f) e ∙ sym (multiplex-unseen f u s)
acts-unseen f u s None x q h = instructs-unseen f u s x h

runs-unseen : (f : Memory → Memory) (u : IsUnseen f) (s : State) (o : Option ℕ) (x : Answer) →
    KeepsWhatIsSeen (entry_point_at s.cpu.cs s.cpu.ip) → ActsUnlessEnded s o x →
    ActsUnlessEnded (with_change f s) o (answer_with f x)
runs-unseen f u s (Some code) x q e = ap (answer_with f) e
runs-unseen f u s None x q h = acts-unseen f u s (entry_point_at s.cpu.cs s.cpu.ip) x q h

pub steps-unseen : (f : Memory → Memory) (u : IsUnseen f) (s : State) (x : Answer) →
    KeepsWhatIsSeen (entry_point_at s.cpu.cs s.cpu.ip) → MakesStep s x → MakesStep (with_change f s) (answer_with f x)
unfolding MakesStep
steps-unseen f u s x q h = runs-unseen f u s s.exited x q h

wants-unseen : (f : Memory → Memory) (u : IsUnseen f) (s : State) → KeepsWhatIsSeen (entry_point_at s.cpu.cs s.cpu.ip) →
    MayWant s (MakesStep s) → MayWant (with_change f s) (MakesStep (with_change f s))
wants-unseen f u s q w = record {
  answer = answer_with f w.answer;
  gives = steps-unseen f u s w.answer q w.gives;
  overflows = w.overflows;
}

answers-unseen : (f : Memory → Memory) (u : IsUnseen f) (s : State) (stop : Option Stop) (t : State) →
    KeepsWhatIsSeen (entry_point_at s.cpu.cs s.cpu.ip) → Answers s stop t →
    Answers (with_change f s) stop (with_change f t)
answers-unseen f u s (Some NoMemory) t q h = (wants-unseen f u s q h.0, ap (with_change f) h.1)
answers-unseen f u s (Some stop) t q h = steps-unseen f u s _ q h
answers-unseen f u s None t q h = steps-unseen f u s _ q h

-- fewer steps are quiet too
pub fewer-quiet : (s : State) (m n : ℕ) → m ≤ n → StaysQuiet s n → StaysQuiet s m
fewer-quiet s m n h q k r less goes = q k r (omega (arith, h, less)) goes

pub goes-unseen : UnseenBytesChangeNoStep
goes-unseen f u s t n q here = here
goes-unseen f u s t n q (further m r v goes h) =
    further m (with_change f r) (with_change f v) (goes-unseen f u s r m (fewer-quiet s m (m + 1) (omega arith) q) goes)
    (steps-unseen f u r _ (q m r (omega arith) goes) h)

within-unseen : (f : Memory → Memory) (u : IsUnseen f) (s t : State) (n : ℕ) (stop : Stop) → StaysQuiet s n →
    StopsWithin s n stop t → StopsWithin (with_change f s) n stop (with_change f t)
within-unseen f u s t n stop q w =
    let fewer = w.fewer in
    record {
      made = w.made;
      before = with_change f w.before;
      fewer = fewer;
      goes = goes-unseen f u s w.before w.made (fewer-quiet s w.made n (omega (arith, fewer)) q) w.goes;
      answers = answers-unseen f u w.before (Some stop) t (q w.made w.before fewer w.goes) w.answers;
    }

pub run-unseen : UnseenBytesChangeNoRun
run-unseen f u s t n stop q (over code e g h) = over code e g (ap (with_change f) h)
run-unseen f u s t n stop q (whole e g goes) = whole e g (goes-unseen f u s t n q goes)
run-unseen f u s t n stop q (cut e w) = cut e (within-unseen f u s t n stop q w)

pub blocks_run-unseen : UnseenBlocksChangeNoRun
blocks_run-unseen other = run-unseen (λ m. unseen_as m other) (pages-unseen other)
