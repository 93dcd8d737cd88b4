-- A run leaves what no program sees.
use Rattle.std.proofs.Common.{◌≡◌, ℕ, zero, suc, ◌+◌, ◌<◌, ◌≤◌, Bool, true, false, cond, List, [], ◌∷◌, Option, Some, None, length, get_or, refl, sym, ◌∙◌, ap, subst, arith, zero-add, inl, inr}
use Rattle.std.proofs.lemmas.Bool.{cases_lt}
use Rattle.std.proofs.lemmas.List.{get_or_past}
use Rattle.dm_space.specs.Memory.{Memory, page_bytes}
use Rattle.dm_space.specs.Places.{IsShaped}
use Rattle.dm_space.specs.Unseen.{shows, mixed, unseen_as}
use Rattle.dm_space.proofs.Places.{shaped-same, shaped-then}
use Rattle.dm_space.proofs.Unseen.{pages-unseen}
use Rattle.dm_exec.specs.declared.effect.Next.{Next}
use Rattle.dm_exec.specs.declared.effect.Next.TheVariants.{Go, Halt}
use Rattle.dm_cpu.specs.Guest.{Guest, guest}
use Rattle.dm_exec.specs.Effect.{next_of}
use Rattle.dm_cpu.specs.Stack.{interrupt_return}
use Rattle.dm_exec.proofs.Map.{effect-kept}
use Rattle.dm_services.specs.declared.state.stop.Stop.{Stop}
use Rattle.dm_services.specs.declared.state.stop.Stop.TheVariants.{Memory as NoMemory}
use Rattle.dm_services.specs.state.State.{State, Answer}
use Rattle.dm_space.specs.declared.entry_points.EntryPoint.{EntryPoint}
use Rattle.dm_space.specs.declared.entry_points.EntryPoint.TheVariants as entry_point
use Rattle.dm_space.specs.EntryPoints.{entry_point_at}
use Rattle.dm_services.specs.Laws.{with_change}
use Rattle.dm_services.specs.inner.Laws.{answer_with}
use Rattle.dm_services.proofs.Map.{serves-kept}
use Rattle.dm_space.specs.declared.entry_points.Driver.TheVariants.{ExpandedMemory, Multiplex, ExtendedMemory}
use Rattle.dm_drivers.specs.Drivers.{driven}
use Rattle.dm_machine.specs.Step.{MakesStep, ActsUnlessEnded, Acts, Instructs, listed, unlisted, after, instructed}
use Rattle.dm_machine.specs.Run.{Answers, Goes, here, further, IsRun, over, whole, cut}
use Rattle.dm_machine.specs.Laws.{KeepsWhatIsSeen, StaysQuiet, RunLeavesUnseen}
use Rattle.dm_machine.proofs.Confined.{steps-unseen, fewer-quiet}
use Rattle.dm_machine.proofs.OneRun.{steps-one}

-- ---- the map

after-shaped : (s : State) (n : Next) (g : Guest) → IsShaped s.memory g.memory →
    IsShaped s.memory (after s n g).state.memory
after-shaped s Go g h = h
after-shaped s Halt g h = shaped-same s.memory

memory-shaped : (s : State) (x y : Answer) → x ≡ y → IsShaped s.memory y.state.memory → IsShaped s.memory x.state.memory
memory-shaped s x y e h = subst (λ (z : Answer). IsShaped s.memory z.state.memory) (sym e) h

instructs-shaped : (s : State) (x : Answer) → Instructs s x → IsShaped s.memory x.state.memory
instructs-shaped s x (listed i k b e) = memory-shaped s x (instructed s i k) e
    (after-shaped s (next_of i.action.mnemonic) _ (effect-kept (guest s.cpu s.memory) i k))
instructs-shaped s x (unlisted h e) = memory-shaped s x _ e (shaped-same s.memory)

multiplex-shaped : (s : State) → IsShaped s.memory (driven s Multiplex).state.memory
unfolding interrupt_return
multiplex-shaped s = shaped-same s.memory

acts-shaped : (s : State) (o : Option EntryPoint) (x : Answer) → KeepsWhatIsSeen o → Acts s o x →
    IsShaped s.memory x.state.memory
acts-shaped s (Some (entry_point.Service service)) x q h = serves-kept s service x h
acts-shaped s (Some (entry_point.Driver ExpandedMemory)) x q e = absurd q
acts-shaped s (Some (entry_point.Driver ExtendedMemory)) x q e = absurd q
acts-shaped s (Some (entry_point.Driver Multiplex)) x q e =
    memory-shaped s x (driven s Multiplex) e (multiplex-shaped s)
acts-shaped s None x q h = instructs-shaped s x h

runs-shaped : (s : State) (o : Option ℕ) (x : Answer) → KeepsWhatIsSeen (entry_point_at s.cpu.cs s.cpu.ip) →
    ActsUnlessEnded s o x → IsShaped s.memory x.state.memory
runs-shaped s (Some code) x q e = memory-shaped s x _ e (shaped-same s.memory)
runs-shaped s None x q h = acts-shaped s (entry_point_at s.cpu.cs s.cpu.ip) x q h

steps-shaped : (s : State) (x : Answer) → KeepsWhatIsSeen (entry_point_at s.cpu.cs s.cpu.ip) → MakesStep s x →
    IsShaped s.memory x.state.memory
unfolding MakesStep
steps-shaped s x q h = runs-shaped s s.exited x q h

-- ---- the bytes

-- the state is the same with those bytes in its unseen blocks
abbrev Has : (ℕ → List ℕ) → State → Type 0
Has other s = with_change (λ m. unseen_as m other) s ≡ s

steps-has : (other : ℕ → List ℕ) (s : State) (x : Answer) → KeepsWhatIsSeen (entry_point_at s.cpu.cs s.cpu.ip) →
    Has other s → MakesStep s x → Has other x.state
steps-has other s x q has h =
    let f : Memory → Memory = λ m. unseen_as m other in
    ap (λ (y : Answer). y.state) (steps-one s (answer_with f x) x (subst (λ (r : State). MakesStep r (answer_with f x))
    has (steps-unseen f (pages-unseen other) s x q h)) h)

-- ---- runs

pub record Stays (other : ℕ → List ℕ) (s t : State) : Type 0 where
  pub shape : IsShaped s.memory t.memory
  pub has : Has other t

goes-stays : (other : ℕ → List ℕ) (s t : State) (n : ℕ) → StaysQuiet s n → Has other s → Goes s n t → Stays other s t
goes-stays other s t n q has here = record { shape = shaped-same s.memory; has = has }
goes-stays other s t n q has (further m r v goes h) =
    let before = goes-stays other s r m (fewer-quiet s m (m + 1) (omega arith) q) has goes in
    let quiet = q m r (omega arith) goes in
    record {
      shape = shaped-then s.memory r.memory v.memory before.shape (steps-shaped r _ quiet h);
      has = steps-has other r _ quiet before.has h;
    }

answers-stay : (other : ℕ → List ℕ) (s r : State) (stop : Option Stop) (t : State) →
    KeepsWhatIsSeen (entry_point_at r.cpu.cs r.cpu.ip) → Stays other s r → Answers r stop t → Stays other s t
answers-stay other s r (Some NoMemory) t q b h = subst (Stays other s) (sym h.1) b
answers-stay other s r (Some stop) t q b h =
    record {
      shape = shaped-then s.memory r.memory t.memory b.shape (steps-shaped r _ q h);
      has = steps-has other r _ q b.has h;
    }
answers-stay other s r None t q b h =
    record {
      shape = shaped-then s.memory r.memory t.memory b.shape (steps-shaped r _ q h);
      has = steps-has other r _ q b.has h;
    }

run-stays : (other : ℕ → List ℕ) (s t : State) (n : ℕ) (stop : Stop) → StaysQuiet s n → Has other s → IsRun s n stop t →
    Stays other s t
run-stays other s t n stop q has (over code e g h) =
    subst (Stays other s) (sym h) (record { shape = shaped-same s.memory; has = has })
run-stays other s t n stop q has (whole e g goes) = goes-stays other s t n q has goes
run-stays other s t n stop q has (cut e w) =
    let fewer = w.fewer in
    let before = goes-stays other s w.before w.made (fewer-quiet s w.made n (omega (arith, fewer)) q) has w.goes in
    answers-stay other s w.before (Some stop) t (q w.made w.before fewer w.goes) before w.answers

-- ---- a memory has its own bytes

either-same : (b : Bool) (x y : List ℕ) → y ≡ x → cond b x y ≡ x
either-same true x y e = refl
either-same false x y e = e

mixed-same : (seen : ℕ → Bool) (other : ℕ → List ℕ) (first : ℕ) (xs : List (List ℕ)) →
    ((k : ℕ) → other (first + k) ≡ get_or xs k []) → mixed seen other first xs ≡ xs
mixed-same seen other first [] h = refl
mixed-same seen other first (x ∷ xs) h =
    let head : other first ≡ x = subst (λ n. other n ≡ x) (omega arith) (h 0) in
    let rest : (k : ℕ) → other (suc first + k) ≡ get_or xs k [] =
    λ k. subst (λ n. other n ≡ get_or xs k []) (omega arith) (h (suc k)) in
    ap (λ y. y ∷ mixed seen other (suc first) xs) (either-same (seen first) x (other first) head)
    ∙ ap (λ ys. x ∷ ys) (mixed-same seen other (suc first) xs rest)

own-bytes : (m : Memory) → unseen_as m (page_bytes m) ≡ m
unfolding unseen_as
own-bytes m =
    let same = mixed-same (shows m.windows) (page_bytes m) 0 m.blocks.contents (λ k. ap (page_bytes m) (zero-add k)) in
    ap (λ (contents : List (List ℕ)). let n : Memory = record m { blocks = record m.blocks { contents = contents } } in
    n) same

has-own : (s : State) → Has (page_bytes s.memory) s
has-own s = ap (λ (m : Memory). let t : State = record s { memory = m } in t) (own-bytes s.memory)

-- ---- and so those that are not shown stay

mixed-other : (seen : ℕ → Bool) (other : ℕ → List ℕ) (first : ℕ) (xs : List (List ℕ)) (k : ℕ) → k < length xs →
    seen (first + k) ≡ false → get_or (mixed seen other first xs) k [] ≡ other (first + k)
mixed-other seen other first [] k h e = absurd (omega (arith, h))
mixed-other seen other first (x ∷ xs) zero h e =
    let unseen : seen first ≡ false = subst (λ n. seen n ≡ false) (omega arith) e in
    let at : other first ≡ other (first + 0) = ap other (omega arith) in
    rw unseen at
mixed-other seen other first (x ∷ xs) (suc k) h e =
    let unseen : seen (suc first + k) ≡ false = subst (λ n. seen n ≡ false) (omega arith) e in
    mixed-other seen other (suc first) xs k (omega (arith, h)) unseen ∙ ap other (omega arith)

unseen-bytes : (m : Memory) (other : ℕ → List ℕ) (block : ℕ) → block < length m.blocks.contents →
    shows m.windows block ≡ false → page_bytes (unseen_as m other) block ≡ other block
unfolding unseen_as
unseen-bytes m other block h e =
    mixed-other (shows m.windows) other 0 m.blocks.contents block h (subst (λ n. shows m.windows n ≡ false)
    (sym (zero-add block)) e) ∙ ap other (zero-add block)

pub run-kept : RunLeavesUnseen
run-kept s t n stop q r =
    let other = page_bytes s.memory in
    let stays = run-stays other s t n stop q (has-own s) r in
    record {
      windows = stays.shape.windows;
      places = stays.shape.places;
      bytes = λ block e. elim (cases_lt block (length t.memory.blocks.contents)) [
        | inl within ↦
            let hidden : shows t.memory.windows block ≡ false =
            ap (λ (ws : List (Option ℕ)). shows ws block) stays.shape.windows ∙ e in
            ap (λ (u : State). page_bytes u.memory block) (sym stays.has)
            ∙ unseen-bytes t.memory other block within hidden
        | inr past ↦
            let count = stays.shape.page_count in
            get_or_past t.memory.blocks.contents block [] past
            ∙ sym (get_or_past s.memory.blocks.contents block [] (subst (λ n. n ≤ block) count past))
      ];
    }
