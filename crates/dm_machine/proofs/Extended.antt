-- A run in which no driver acts leaves all blocks of extended memory, and doesn't depend on them.
use Rattle.std.proofs.Common.{◌≡◌, ℕ, suc, ◌+◌, Bool, true, false, ◌||◌, ◌==◌, not, cond, IfSome, List, [], ◌∷◌, Option, Some, None, get_or, refl, sym, ◌∙◌, ap, subst, arith, zero-add}
use Rattle.std.proofs.lemmas.Bool.{eqb-true}
use Rattle.dm_space.specs.Memory.{page_bytes, with_blocks}
use Rattle.dm_space.specs.Unseen.{shows, mixed, unseen_as}
use Rattle.dm_space.proofs.Unseen.{pages-unseen}
use Rattle.dm_exec.specs.declared.effect.Next.{Next}
use Rattle.dm_exec.specs.declared.effect.Next.TheVariants.{Go, Halt}
use Rattle.dm_cpu.specs.Guest.{Guest}
use Rattle.dm_exec.specs.Effect.{next_of}
use Rattle.dm_xms.specs.declared.tables.Handle.{Handle}
use Rattle.dm_xms.specs.Consistent.{handle_at}
use Rattle.dm_xms.specs.Tables as xms
use Rattle.dm_services.specs.declared.state.stop.Stop.{Stop}
use Rattle.dm_services.specs.declared.state.stop.Stop.TheVariants.{Memory as NoMemory}
use Rattle.dm_services.specs.state.State.{State, Answer, AreConsistent}
use Rattle.dm_space.specs.declared.entry_points.EntryPoint.{EntryPoint}
use Rattle.dm_space.specs.declared.entry_points.EntryPoint.TheVariants as entry_point
use Rattle.dm_space.specs.EntryPoints.{entry_point_at}
use Rattle.dm_services.proofs.Map.{tables-kept}
use Rattle.dm_space.specs.declared.entry_points.Driver.TheVariants.{ExpandedMemory, Multiplex, ExtendedMemory}
use Rattle.dm_drivers.specs.Drivers.{driven}
use Rattle.dm_machine.specs.Step.{MakesStep, ActsUnlessEnded, Acts, Instructs, listed, unlisted, after, instructed}
use Rattle.dm_machine.specs.Run.{Answers, Goes, here, further, IsRun, over, whole, cut}
use Rattle.dm_machine.specs.Laws.{KeepsWhatIsSeen, StaysQuiet, is_extended, with_unseen_blocks, with_extended_blocks, ExtendedBlocksChangeNoRun, RunLeavesExtended}
use Rattle.dm_machine.proofs.Confined.{fewer-quiet, run-unseen}
use Rattle.dm_machine.proofs.Kept.{run-kept}

-- ---- the tables

abbrev SameTables : State → State → Type 0
SameTables s t = (t.ems ≡ s.ems) × (t.xms ≡ s.xms)

same : (s : State) → SameTables s s
same s = (refl, refl)

onward : (s t u : State) → SameTables s t → SameTables t u → SameTables s u
onward s t u a b = (b.0 ∙ a.0, b.1 ∙ a.1)

answer-same : (s : State) (x y : Answer) → x ≡ y → SameTables s y.state → SameTables s x.state
answer-same s x y e h = subst (λ (z : Answer). SameTables s z.state) (sym e) h

after-same : (s : State) (n : Next) (g : Guest) → SameTables s (after s n g).state
after-same s Go g = (refl, refl)
after-same s Halt g = (refl, refl)

instructs-same : (s : State) (x : Answer) → Instructs s x → SameTables s x.state
instructs-same s x (listed i k b e) = answer-same s x (instructed s i k) e (after-same s (next_of i.action.mnemonic) _)
instructs-same s x (unlisted h e) = answer-same s x _ e (same s)

acts-same : (s : State) (o : Option EntryPoint) (x : Answer) → KeepsWhatIsSeen o → Acts s o x → SameTables s x.state
acts-same s (Some (entry_point.Service service)) x q h = tables-kept s service x h
acts-same s (Some (entry_point.Driver ExpandedMemory)) x q e = absurd q
acts-same s (Some (entry_point.Driver ExtendedMemory)) x q e = absurd q
acts-same s (Some (entry_point.Driver Multiplex)) x q e = answer-same s x (driven s Multiplex) e (refl, refl)
acts-same s None x q h = instructs-same s x h

runs-same : (s : State) (o : Option ℕ) (x : Answer) → KeepsWhatIsSeen (entry_point_at s.cpu.cs s.cpu.ip) →
    ActsUnlessEnded s o x → SameTables s x.state
runs-same s (Some code) x q e = answer-same s x _ e (same s)
runs-same s None x q h = acts-same s (entry_point_at s.cpu.cs s.cpu.ip) x q h

steps-same : (s : State) (x : Answer) → KeepsWhatIsSeen (entry_point_at s.cpu.cs s.cpu.ip) → MakesStep s x →
    SameTables s x.state
unfolding MakesStep
steps-same s x q h = runs-same s s.exited x q h

goes-same : (s t : State) (n : ℕ) → StaysQuiet s n → Goes s n t → SameTables s t
goes-same s t n q here = same s
goes-same s t n q (further m r v goes h) =
    onward s r v (goes-same s r m (fewer-quiet s m (m + 1) (omega arith) q) goes)
    (steps-same r _ (q m r (omega arith) goes) h)

answers-same : (r : State) (stop : Option Stop) (t : State) → KeepsWhatIsSeen (entry_point_at r.cpu.cs r.cpu.ip) →
    Answers r stop t → SameTables r t
answers-same r (Some NoMemory) t q h = subst (SameTables r) (sym h.1) (same r)
answers-same r (Some stop) t q h = steps-same r _ q h
answers-same r None t q h = steps-same r _ q h

run-same : (s t : State) (n : ℕ) (stop : Stop) → StaysQuiet s n → IsRun s n stop t → SameTables s t
run-same s t n stop q (over code e g h) = subst (SameTables s) (sym h) (same s)
run-same s t n stop q (whole e g goes) = goes-same s t n q goes
run-same s t n stop q (cut e w) =
    let fewer = w.fewer in
    onward s w.before t (goes-same s w.before w.made (fewer-quiet s w.made n (omega (arith, fewer)) q) w.goes)
    (answers-same w.before (Some stop) t (q w.made w.before fewer w.goes) w.answers)

-- ---- no window shows a block of extended memory

met : (P : ℕ → Type 0) (h : Handle) (block : ℕ) (b : Bool) → (h.block == block) ≡ b → P h.block →
    (b ≡ false → P block) → P block
met P h block true e p rest = subst P (eqb-true h.block block e) p
met P h block false e p rest = rest refl

rest-is : (b c : Bool) → (b || c) ≡ true → b ≡ false → c ≡ true
rest-is true c e f = let no : true ≡ false = f in cc
rest-is false c e f = e

each : (handles : List (Option Handle)) (P : ℕ → Type 0) (block : ℕ) →
    ((k : ℕ) → IfSome (handle_at handles k) (λ h. P h.block)) → is_extended handles block ≡ true → P block
each [] P block h e = let no : false ≡ true = e in absurd (cc)
each (None ∷ handles) P block h e = each handles P block (λ k. h (suc k)) e
each (Some handle ∷ handles) P block h e =
    met P handle block (handle.block == block) refl (h 0)
    (λ other. each handles P block (λ k. h (suc k)) (rest-is (handle.block == block) (is_extended handles block) e
    other))

if_some : {A : Type 0} (o : Option A) (P Q : A → Type 0) → ((a : A) → P a → Q a) → IfSome o P → IfSome o Q
if_some (Some a) P Q f h = f a h
if_some None P Q f h = tt

hidden : (s : State) (block : ℕ) → AreConsistent s → is_extended s.xms.handles block ≡ true →
    shows s.memory.windows block ≡ false
hidden s block l e =
    each s.xms.handles (λ b. shows s.memory.windows b ≡ false) block
    (λ k. if_some (handle_at s.xms.handles k) _ _ (λ h x. x.hidden) (l.xms.blocks k)) e

pub run-extended_kept : RunLeavesExtended
run-extended_kept s t n stop l q r =
    let tables = run-same s t n stop q r in
    let kept = run-kept s t n stop q r in
    record { expanded = tables.0; extended = tables.1; bytes = λ block e. kept.bytes block (hidden s block l e) }

-- ---- other bytes in them

-- of one block: it is seen; or it is one of extended memory; or it is neither, and has its own bytes
one : (seen extended : Bool) (own other : List ℕ) (x : List ℕ) → (extended ≡ true → seen ≡ false) →
    (seen ≡ false → own ≡ x) →
    cond seen x (cond extended other own) ≡ cond (not extended) x other
one true true own other x h k = let no : true ≡ false = h refl in absurd (cc)
one true false own other x h k = refl
one false true own other x h k = refl
one false false own other x h k = k refl

mixed-agree : (f g : ℕ → Bool) (o p : ℕ → List ℕ) (first : ℕ) (xs : List (List ℕ)) →
    ((k : ℕ) → cond (f (first + k)) (get_or xs k []) (o (first + k)) ≡ cond (g (first + k)) (get_or xs k [])
    (p (first + k))) → mixed f o first xs ≡ mixed g p first xs
mixed-agree f g o p first [] h = refl
mixed-agree f g o p first (x ∷ xs) h =
    let head : cond (f first) x (o first) ≡ cond (g first) x (p first) =
    subst (λ n. cond (f n) x (o n) ≡ cond (g n) x (p n)) (omega arith) (h 0) in
    let rest : (k : ℕ) → cond (f (suc first + k)) (get_or xs k []) (o (suc first + k))
    ≡ cond (g (suc first + k)) (get_or xs k []) (p (suc first + k))
    = λ k. subst (λ n. cond (f n) (get_or xs k []) (o n) ≡ cond (g n) (get_or xs k []) (p n)) (omega arith)
    (h (suc k)) in
    ap (λ y. y ∷ mixed f o (suc first) xs) head ∙ ap (λ ys. cond (g first) x (p first)
    ∷ ys) (mixed-agree f g o p (suc first) xs rest)

abbrev chosen : List (Option Handle) → (ℕ → List ℕ) → (ℕ → List ℕ) → ℕ → List ℕ
chosen handles other own block = cond (is_extended handles block) (other block) (own block)

as-extended : (other own : ℕ → List ℕ) (v : State) → ((block : ℕ) → is_extended v.xms.handles block ≡ true →
    shows v.memory.windows block ≡ false) →
    ((block : ℕ) → shows v.memory.windows block ≡ false → own block ≡ page_bytes v.memory block) →
    with_unseen_blocks (chosen v.xms.handles other own) v ≡ with_extended_blocks other v
unfolding unseen_as
as-extended other own v h k =
    let agree : mixed (shows v.memory.windows) (chosen v.xms.handles other own) 0 v.memory.blocks.contents
    ≡ mixed (λ block. not (is_extended v.xms.handles block)) other 0 v.memory.blocks.contents
    = mixed-agree (shows v.memory.windows) (λ block. not (is_extended v.xms.handles block))
    (chosen v.xms.handles other own) other 0 v.memory.blocks.contents
    (λ b. one (shows v.memory.windows (0 + b)) (is_extended v.xms.handles (0 + b)) (own (0 + b)) (other (0 + b))
    (get_or v.memory.blocks.contents b [])
    (h (0 + b))
    (λ e. k (0 + b) e ∙ ap (page_bytes v.memory) (zero-add b))) in
    ap (λ (contents : List (List ℕ)). let t : State =
    record v { memory = with_blocks v.memory (record v.memory.blocks { contents = contents }) } in t) agree

pub run-extended : ExtendedBlocksChangeNoRun
run-extended other s t n stop l q r =
    let own = page_bytes s.memory in
    let change = chosen s.xms.handles other own in
    let tables = run-same s t n stop q r in
    let kept = run-kept s t n stop q r in
    let changed : IsRun (with_unseen_blocks change s) n stop (with_unseen_blocks change t) =
    run-unseen (λ m. unseen_as m change) (pages-unseen change) s t n stop q r in
    let before : with_unseen_blocks change s ≡ with_extended_blocks other s =
    as-extended other own s (λ block e. hidden s block l e) (λ block e. refl) in
    let same-handles : t.xms.handles ≡ s.xms.handles = ap (λ (x : xms.Tables). x.handles) tables.1 in
    let unseen : (block : ℕ) → is_extended t.xms.handles block ≡ true → shows t.memory.windows block ≡ false
    = λ block e. ap (λ (ws : List (Option ℕ)). shows ws block) kept.windows
    ∙ hidden s block l (subst (λ (hs : List (Option Handle)). is_extended hs block ≡ true) same-handles e) in
    let bytes : (block : ℕ) → shows t.memory.windows block ≡ false → own block ≡ page_bytes t.memory block
    = λ block e. sym (kept.bytes block (ap (λ (ws : List (Option ℕ)). shows ws block) (sym kept.windows) ∙ e)) in
    let after : with_unseen_blocks change t ≡ with_extended_blocks other t
    = subst (λ (hs : List (Option Handle)). with_unseen_blocks (chosen hs other own) t
    ≡ with_extended_blocks other t) same-handles (as-extended other own t unseen bytes) in
    subst (λ (v : State). IsRun v n stop (with_extended_blocks other t)) before
    (subst (λ (v : State). IsRun (with_unseen_blocks change s) n stop v) after changed)
