-- Each call has one answer.
use Rattle.std.proofs.Common.{Bool, ◌≡◌, ℕ, zero, suc, ◌+◌, ◌<◌, ◌⊎◌, nat_eq, List, [], ◌∷◌, ◌++◌, length, inl, inr, refl, sym, ◌∙◌, ap, ap₂, subst, arith, Option, Some, None, Result, Ok, Err}
use Rattle.std.specs.Prelude.{if◌then◌else◌, false}
use Rattle.dm_space.specs.Memory.{Memory}
use Rattle.dm_arena.specs.declared.fit.Strategy.{Strategy}
use Rattle.dm_arena.specs.declared.refusal.ArenaRefusal.TheVariants as arena
use Rattle.dm_arena.specs.declared.refusal.ArenaRefusal.{ArenaRefusal}
use Rattle.dm_blocks.specs.Chain.{first_header}
use Rattle.dm_arena.specs.Pair.{Placed}
use Rattle.dm_arena.proofs.OneAnswer.{resizing_unique, releasing_unique}
use Rattle.dm_arena.proofs.OnePair.{pairing_unique, pair_refused}
use Rattle.dm_load.specs.Image.{IsGood, relocated}
use Rattle.dm_cpu.specs.declared.cpu.Cpu.{Cpu}
use Rattle.dm_proc.specs.declared.parent.Parent.{Parent}
use Rattle.dm_proc.specs.declared.parent.Ending.{Ending}
use Rattle.dm_proc.specs.declared.parent.Ending.TheVariants.{Returned, Exited}
use Rattle.dm_proc.specs.declared.refusal.ExecRefusal.{ExecRefusal}
use Rattle.dm_proc.specs.declared.refusal.ExecRefusal.TheVariants.{Function, NotFound, BadFormat, Environment, Destroyed, Short}
use Rattle.dm_proc.specs.declared.refusal.ArenaDestroyed.{ArenaDestroyed}
use Rattle.dm_proc.specs.Programs.{program_of}
use Rattle.dm_proc.specs.Writes.{apply, block, bytes_from}
use Rattle.dm_proc.specs.Request.{IsNameAt, NoNameAt, Names, NamesGood, NameRefused, Passed, passed, load_segment, relocation_factor}
use Rattle.dm_proc.specs.Environment.{IsEnvironment, AreVariables, NoVariables, environment}
use Rattle.dm_proc.specs.Room.{paragraphs, least, most}
use Rattle.dm_proc.specs.Start.{start_writes, start_registers, prefix}
use Rattle.dm_proc.specs.Processes.{Processes, return_registers, IsPlanned, PlanRefused, Starts, Asks, environment_of, Execs, ExecRefused, Executes, Loads, Lays, OverlayRefused, Overlays, vectors_back, GoesOn, Ends, Terminates, StaysResident}

some-same : {A : Type 0} (x y : A) → Some x ≡ Some y → x ≡ y
some-same x y e = cc

refusals-clash : (r q : Result Placed ArenaRefusal) (room : ℕ) → r ≡ Err arena.Destroyed → q ≡ Err (arena.Short room) →
    r ≡ q → ⊥
refusals-clash r q room f g e = cc

placed-same : (r q : Result Placed ArenaRefusal) (x y : Placed) → r ≡ Ok x → q ≡ Ok y → r ≡ q → x ≡ y
placed-same r q x y f g e = cc

served-clash : (r q : Result (Unit {0}) ArenaRefusal) → r ≡ Ok tt → q ≡ Err arena.Destroyed → r ≡ q → ⊥
served-clash r q f g e = cc

compared : (a b : ℕ) → (a < b → ⊥) → (b < a → ⊥) → a ≡ b
compared a b f g = elim (three a b) [ inl l ↦ absurd (f l) | inr r ↦ elim r [ inl e ↦ e | inr h ↦ absurd (g h) ] ]
  where
    three : (a b : ℕ) → (a < b) ⊎ ((a ≡ b) ⊎ (b < a))
    three zero zero = inr (inl refl)
    three zero (suc b) = inl (omega arith)
    three (suc a) zero = inr (inr (omega arith))
    three (suc a) (suc b) = elim (three a b) [
      | inl l ↦ inl (omega arith)
      | inr r ↦
          inr (elim r [ inl e ↦ inl (ap suc e) | inr h ↦ inr (omega arith) ])
    ]

-- the name and the file
name_unique : (m : Memory) (s o : ℕ) (a b : List ℕ) → IsNameAt m s o a → IsNameAt m s o b → a ≡ b
name_unique m s o a b x y =
    let e : length a ≡ length b = compared (length a) (length b) (λ l. y.before (length a) l x.closed)
    (λ l. x.before (length b) l y.closed) in
    x.bytes ∙ ap (bytes_from m s o) e ∙ sym y.bytes

no_name : (m : Memory) (s o : ℕ) (a : List ℕ) → NoNameAt m s o → IsNameAt m s o a → ⊥
no_name m s o a none x = (let short = x.short in none (length a) (omega arith) x.closed)

found-same : (store : List (List ℕ × List ℕ)) (a b : List ℕ) (f g : Option (List ℕ)) → a ≡ b → program_of store a ≡ f →
    program_of store b ≡ g → f ≡ g
found-same store a b f g e x y = sym x ∙ ap (program_of store) e ∙ y

names_unique : (c : Cpu) (m : Memory) (store : List (List ℕ × List ℕ)) (a b f g : List ℕ) → Names c m store a f →
    Names c m store b g → (a ≡ b) × (f ≡ g)
names_unique c m store a b f g x y =
    let e = name_unique m c.ds c.dx a b x.named y.named in
    (e, some-same f g (found-same store a b (Some f) (Some g) e x.found y.found))

named_none : (c : Cpu) (m : Memory) (store : List (List ℕ × List ℕ)) (a f : List ℕ) → Names c m store a f →
    NameRefused c m store NotFound → ⊥
named_none c m store a f x (inl none) = no_name m c.ds c.dx a none x.named
named_none c m store a f x (inr r) =
    let e : Some f ≡ None = found-same store a r.0 (Some f) None (name_unique m c.ds c.dx a r.0 x.named r.1) x.found
    r.2 in
    cc

good_refused : (c : Cpu) (m : Memory) (store : List (List ℕ × List ℕ)) (a f : List ℕ) → NamesGood c m store a f →
    (e : ExecRefusal) → NameRefused c m store e → ⊥
good_refused c m store a f x NotFound r = named_none c m store a f x.0 r
good_refused c m store a f x BadFormat r =
    (let F : List ℕ → Type 0 = λ g. IsGood g in r.3 (subst F (names_unique c m store a r.0 f r.1 x.0 r.2).1 x.1))
good_refused c m store a f x Function r = r
good_refused c m store a f x Environment r = r
good_refused c m store a f x Destroyed r = r
good_refused c m store a f x Short r = r

-- the variables
environment_unique : (m : Memory) (s a b : ℕ) → IsEnvironment m s a → IsEnvironment m s b → a ≡ b
environment_unique m s a b x y = compared a b (λ l. y.first a l x.ends) (λ l. x.first b l y.ends)

variables_unique : (m : Memory) (s : ℕ) (a b : List ℕ) → AreVariables m s a → AreVariables m s b → a ≡ b
variables_unique m s a b (inl x) (inl y) = x.1 ∙ sym y.1
variables_unique m s a b (inl x) (inr y) = (let e = x.0 in let l = y.0 in absurd (omega arith))
variables_unique m s a b (inr x) (inl y) = (let l = x.0 in let e = y.0 in absurd (omega arith))
variables_unique m s a b (inr x) (inr y) = x.1.2
    ∙ ap (bytes_from m s 0) (environment_unique m s x.1.0 y.1.0 x.1.1 y.1.1) ∙ sym y.1.2

no_variables : (m : Memory) (s : ℕ) (a : List ℕ) → NoVariables m s → AreVariables m s a → ⊥
no_variables m s a none (inl x) = (let l = none.0 in let e = x.0 in omega arith)
no_variables m s a none (inr x) = none.1 x.1.0 x.1.1.within x.1.1.ends

-- what is asked for
module _ (ps : Processes) (c : Cpu) (m : Memory) (store : List (List ℕ × List ℕ)) (a b : Asks ps c m store) where
  file-same : a.file ≡ b.file
  file-same = (names_unique c m store a.name b.name a.file b.file a.names.0 b.names.0).1

  environment-same : environment_of a ≡ environment_of b
  environment-same =
      ap₂ (λ v n. environment v n) (variables_unique m _ a.variables b.variables a.old b.old)
      (names_unique c m store a.name b.name a.file b.file a.names.0 b.names.0).0

  abbrev planned-same : (P : ℕ → List ℕ → Type 0) → P (length (environment_of b)) b.file →
      P (length (environment_of a)) a.file
  planned-same P p =
      let Q : ℕ → Type 0 = λ k. P k b.file in
      let R : List ℕ → Type 0 = λ f. P (length (environment_of a)) f in
      subst R (sym file-same) (subst Q (sym (ap length environment-same)) p)

-- the refusals in their order
abbrev place : ExecRefusal → ℕ
place Function = 0
place NotFound = 1
place BadFormat = 2
place Environment = 3
place Destroyed = 4
place Short = 5

-- the refusal at a place
abbrev refusal_at : ℕ → ExecRefusal
refusal_at n = if nat_eq n 0 then Function else (if nat_eq n 1 then NotFound else (if nat_eq n 2 then BadFormat else
    (if nat_eq n 3 then Environment else (if nat_eq n 4 then Destroyed else Short))))

refusal_at-place : (e : ExecRefusal) → refusal_at (place e) ≡ e
refusal_at-place Function = refl
refusal_at-place NotFound = refl
refusal_at-place BadFormat = refl
refusal_at-place Environment = refl
refusal_at-place Destroyed = refl
refusal_at-place Short = refl

place-same : (d e : ExecRefusal) → place d ≡ place e → d ≡ e
place-same d e h = sym (refusal_at-place d) ∙ ap refusal_at h ∙ refusal_at-place e

-- an overlay
lays_refused : (c : Cpu) (m : Memory) (store : List (List ℕ × List ℕ)) (n : Memory) → Lays c m store n →
    (e : ExecRefusal) → OverlayRefused c m store e → ⊥
lays_refused c m store n x Function r = r x.action
lays_refused c m store n x NotFound r = good_refused c m store x.name x.file x.names NotFound r.1
lays_refused c m store n x BadFormat r = good_refused c m store x.name x.file x.names BadFormat r.1
lays_refused c m store n x Environment r = r
lays_refused c m store n x Destroyed r = r
lays_refused c m store n x Short r = r

overlay_refused_same : (c : Cpu) (m : Memory) (store : List (List ℕ × List ℕ)) (d e : ExecRefusal) →
    OverlayRefused c m store d → OverlayRefused c m store e → d ≡ e
overlay_refused_same c m store Function Function x y = refl
overlay_refused_same c m store Function NotFound x y = absurd (x y.0)
overlay_refused_same c m store Function BadFormat x y = absurd (x y.0)
overlay_refused_same c m store NotFound Function x y = absurd (y x.0)
overlay_refused_same c m store NotFound NotFound x y = refl
overlay_refused_same c m store NotFound BadFormat x y = absurd (let b = y.1 in named_none c m store b.0 b.1 b.2 x.1)
overlay_refused_same c m store BadFormat Function x y = absurd (y x.0)
overlay_refused_same c m store BadFormat NotFound x y = absurd (let b = x.1 in named_none c m store b.0 b.1 b.2 y.1)
overlay_refused_same c m store BadFormat BadFormat x y = refl
overlay_refused_same c m store Environment e x y = absurd x
overlay_refused_same c m store Destroyed e x y = absurd x
overlay_refused_same c m store Short e x y = absurd x
overlay_refused_same c m store Function Environment x y = absurd y
overlay_refused_same c m store Function Destroyed x y = absurd y
overlay_refused_same c m store Function Short x y = absurd y
overlay_refused_same c m store NotFound Environment x y = absurd y
overlay_refused_same c m store NotFound Destroyed x y = absurd y
overlay_refused_same c m store NotFound Short x y = absurd y
overlay_refused_same c m store BadFormat Environment x y = absurd y
overlay_refused_same c m store BadFormat Destroyed x y = absurd y
overlay_refused_same c m store BadFormat Short x y = absurd y

pub overlay_unique : (c : Cpu) (m : Memory) (store : List (List ℕ × List ℕ)) (r q : Result (Unit {0}) ExecRefusal)
    (m₁ m₂ : Memory) → Overlays c m store r m₁ → Overlays c m store q m₂ → (r ≡ q) × (m₁ ≡ m₂)
overlay_unique c m store (Ok u) (Ok v) m₁ m₂ x y =
    let e = (names_unique c m store x.name y.name x.file y.file x.names.0 y.names.0).1 in (
      refl,
      x.memory ∙ ap (λ f. apply (block m.a20 (load_segment c m) (relocated f (relocation_factor c m))) m) e
          ∙ sym y.memory,
    )
overlay_unique c m store (Ok u) (Err e) m₁ m₂ x y = absurd (lays_refused c m store m₁ x e y.1)
overlay_unique c m store (Err e) (Ok v) m₁ m₂ x y = absurd (lays_refused c m store m₂ y e x.1)
overlay_unique c m store (Err d) (Err e) m₁ m₂ x y =
    (ap (λ (z : ExecRefusal). Err z) (overlay_refused_same c m store d e x.1 y.1), x.0 ∙ sym y.0)

-- an ending
last-same : (xs ys : List Parent) (p q : Parent) → xs ++ p ∷ [] ≡ ys ++ q ∷ [] → (xs ≡ ys) × (p ≡ q)
last-same [] [] p q e = (refl, cc)
last-same [] (y ∷ []) p q e = cc
last-same [] (y ∷ (z ∷ ys)) p q e = cc
last-same (x ∷ []) [] p q e = cc
last-same (x ∷ (z ∷ xs)) [] p q e = cc
last-same (x ∷ xs) (y ∷ ys) p q e =
    let h : x ≡ y = cc in
    let t : xs ++ p ∷ [] ≡ ys ++ q ∷ [] = cc in
    let r = last-same xs ys p q t in
    (ap₂ (λ a b. a ∷ b) h r.0, r.1)

none-last : (xs : List Parent) (p : Parent) → [] ≡ xs ++ p ∷ [] → ⊥
none-last [] p e = cc
none-last (x ∷ xs) p e = cc

goes_on_unique : (ps : Processes) (c : Cpu) (word : ℕ) (d e : Ending) (p₁ p₂ : Processes) (c₁ c₂ : Cpu) →
    GoesOn ps c word d p₁ c₁ → GoesOn ps c word e p₂ c₂ → (d ≡ e) × (p₁ ≡ p₂) × (c₁ ≡ c₂)
goes_on_unique ps c word Returned Returned p₁ p₂ c₁ c₂ x y =
    let u = last-same p₁.parents p₂.parents x.0 y.0 (sym x.1 ∙ y.1) in (
      refl,
      x.2 ∙ ap₂ (λ (p : Parent) (xs : List Parent). let q : Processes = record {
        present = p.segment;
        parents = xs;
        code = word;
      } in q) u.1 u.0 ∙ sym y.2,
      x.3 ∙ ap (λ (p : Parent). p.cpu) u.1 ∙ sym y.3,
    )
goes_on_unique ps c word Returned Exited p₁ p₂ c₁ c₂ x y = absurd (none-last p₁.parents x.0 (sym y.0 ∙ x.1))
goes_on_unique ps c word Exited Returned p₁ p₂ c₁ c₂ x y = absurd (none-last p₂.parents y.0 (sym x.0 ∙ y.1))
goes_on_unique ps c word Exited Exited p₁ p₂ c₁ c₂ x y = (refl, x.1 ∙ sym y.1, x.2 ∙ sym y.2)

ends_unique : (ps : Processes) (c : Cpu) (m n : Memory) (word : ℕ) (d e : Ending) (p₁ p₂ : Processes) (c₁ c₂ : Cpu)
    (m₁ m₂ : Memory) → m ≡ n →
    Ends ps c m word d p₁ c₁ m₁ → Ends ps c n word e p₂ c₂ m₂ → (d ≡ e) × (p₁ ≡ p₂) × (c₁ ≡ c₂) × (m₁ ≡ m₂)
ends_unique ps c m n word d e p₁ p₂ c₁ c₂ m₁ m₂ same x y =
    let u = goes_on_unique ps c word d e p₁ p₂ c₁ c₂ x.goes_on y.goes_on in
    (u.0, u.1, u.2, x.memory ∙ ap (λ k. vectors_back k ps.present) same ∙ sym y.memory)

module _ (up : Bool) where
  -- a plan is made or refused
  planned_refused : (m : Memory) (st : Strategy) (k : ℕ) (f : List ℕ) (e : ExecRefusal) → IsPlanned up m st k f →
      PlanRefused up m st k f e → ⊥
  planned_refused m st k f Destroyed p r = pair_refused up m first_header st (paragraphs k) (least f)
      (most f) p.0 p.1 arena.Destroyed r.1
  planned_refused m st k f Short p r = pair_refused up m first_header st (paragraphs k) (least f) (most f) p.0 p.1
      (arena.Short r.0) r.1.1
  planned_refused m st k f Function p r = r
  planned_refused m st k f NotFound p r = r
  planned_refused m st k f BadFormat p r = r
  planned_refused m st k f Environment p r = r

  destroyed_room : (m : Memory) (st : Strategy) (k : ℕ) (f : List ℕ) → PlanRefused up m st k f Destroyed →
      PlanRefused up m st k f Short → ⊥
  destroyed_room m st k f x y =
      refusals-clash _ _ y.0 refl refl (pairing_unique up m st (paragraphs k) (least f) (most f) (Err arena.Destroyed)
      (Err (arena.Short y.0)) m m x y.1).0

  started_planned : (m : Memory) (st : Strategy) (env f : List ℕ) (parent : ℕ) (a : Passed) (placed : Placed)
      (n : Memory) → Starts up m st env f parent a placed n → IsPlanned up m st (length env) f
  started_planned m st env f parent a placed n s = (s.plans.0, s.plans.1)

  starts_unique : (m : Memory) (st : Strategy) (env f : List ℕ) (parent : ℕ) (a : Passed) (p q : Placed)
      (n o : Memory) → Starts up m st env f parent a p n → Starts up m st env f parent a q o → (p ≡ q) × (n ≡ o)
  starts_unique m st env f parent a p q n o x y =
      let u = pairing_unique up m st (paragraphs (length env)) (least f) (most f) (Ok p)
      (Ok q) x.middle y.middle x.plans y.plans in
      let e : p ≡ q = placed-same _ _ p q refl refl u.0 in (
        e,
        x.memory ∙ ap (λ (k : Memory). apply (start_writes k.a20 p env (prefix m p parent a) f) k) u.1
            ∙ ap (λ (z : Placed). apply (start_writes y.middle.a20 z env (prefix m z parent a) f) y.middle) e
            ∙ sym y.memory,
      )

  plan_refused_same : (m : Memory) (st : Strategy) (k : ℕ) (f : List ℕ) (d e : ExecRefusal) →
      PlanRefused up m st k f d → PlanRefused up m st k f e → d ≡ e
  plan_refused_same m st k f Destroyed Destroyed x y = refl
  plan_refused_same m st k f Destroyed Short x y = absurd (destroyed_room m st k f x y)
  plan_refused_same m st k f Short Destroyed x y = absurd (destroyed_room m st k f y x)
  plan_refused_same m st k f Short Short x y = refl
  plan_refused_same m st k f Function e x y = absurd x
  plan_refused_same m st k f NotFound e x y = absurd x
  plan_refused_same m st k f BadFormat e x y = absurd x
  plan_refused_same m st k f Environment e x y = absurd x
  plan_refused_same m st k f Destroyed Function x y = absurd y
  plan_refused_same m st k f Destroyed NotFound x y = absurd y
  plan_refused_same m st k f Destroyed BadFormat x y = absurd y
  plan_refused_same m st k f Destroyed Environment x y = absurd y
  plan_refused_same m st k f Short Function x y = absurd y
  plan_refused_same m st k f Short NotFound x y = absurd y
  plan_refused_same m st k f Short BadFormat x y = absurd y
  plan_refused_same m st k f Short Environment x y = absurd y

  -- a program is started or refused
  starts-at : (ps : Processes) (c : Cpu) (m : Memory) (store : List (List ℕ × List ℕ)) (st : Strategy)
      (a b : Asks ps c m store) (placed : Placed) (n : Memory) →
      Starts up m st (environment_of b) b.file ps.present (passed c m) placed n →
      Starts up m st (environment_of a) a.file ps.present (passed c m) placed n
  starts-at ps c m store st a b placed n s =
      let Q : List ℕ → Type 0 = λ env. Starts up m st env b.file ps.present (passed c m) placed n in
      let R : List ℕ → Type 0 = λ f. Starts up m st (environment_of a) f ps.present (passed c m) placed n in
      subst R (sym (file-same ps c m store a b)) (subst Q (sym (environment-same ps c m store a b)) s)

  execs_unique : (ps : Processes) (c : Cpu) (m : Memory) (store : List (List ℕ × List ℕ)) (st : Strategy)
      (p q : Processes) (d e : Cpu) (n o : Memory) →
      Execs up ps c m store st p d n → Execs up ps c m store st q e o → (p ≡ q) × (d ≡ e) × (n ≡ o)
  execs_unique ps c m store st p q d e n o x y =
      let u = starts_unique m st _ _ _ _ x.placed y.placed n o x.starts (starts-at ps c m store st x.asks y.asks
      y.placed o y.starts) in (
        x.processes ∙ ap (λ (z : Placed). record ps {
          present = z.program;
          parents = ps.parents ++ record { segment = ps.present; cpu = return_registers c m } ∷ [];
        }) u.0
            ∙ sym y.processes,
        x.registers ∙ ap₂ start_registers u.0 (file-same ps c m store x.asks y.asks) ∙ sym y.registers,
        u.1,
      )

  exec_refused : (ps : Processes) (c : Cpu) (m : Memory) (store : List (List ℕ × List ℕ)) (st : Strategy)
      (q : Processes) (d : Cpu) (n : Memory) → Execs up ps c m store st q d n → (e : ExecRefusal) →
      ExecRefused up ps c m store st e → ⊥
  exec_refused ps c m store st q d n x Function r = r x.asks.action
  exec_refused ps c m store st q d n x NotFound r =
      good_refused c m store x.asks.name x.asks.file x.asks.names NotFound r.1
  exec_refused ps c m store st q d n x BadFormat r =
      good_refused c m store x.asks.name x.asks.file x.asks.names BadFormat r.1
  exec_refused ps c m store st q d n x Environment r = no_variables m _ x.asks.variables r.2 x.asks.old
  exec_refused ps c m store st q d n x Destroyed r =
      planned_refused m st _ _ Destroyed (started_planned _ _ _ _ _ _ _ _ x.starts)
      (planned-same ps c m store x.asks r.0 (λ k f. PlanRefused up m st k f Destroyed) r.1)
  exec_refused ps c m store st q d n x Short r = elim r.1 [
    | inl s ↦ planned_refused m st _ _ Short (started_planned _ _ _ _ _ _ _ _ x.starts)
        (planned-same ps c m store x.asks r.0 (λ k f. PlanRefused up m st k f Short) s)
    | inr s ↦ (let full = s.1 in let few = x.few in omega arith)
  ]

  destroyed_short : (ps : Processes) (c : Cpu) (m : Memory) (store : List (List ℕ × List ℕ)) (st : Strategy) →
      ExecRefused up ps c m store st Destroyed → ExecRefused up ps c m store st Short → ⊥
  destroyed_short ps c m store st x y = elim y.1 [
    | inl s ↦ destroyed_room m st _ _ x.1 (planned-same ps c m store x.0 y.0 (λ k f. PlanRefused up m st k f Short) s)
    | inr s ↦ planned_refused m st _ _ Destroyed (planned-same ps c m store x.0 y.0 (λ k f. IsPlanned up m st k f) s.0)
        x.1
  ]

  clash : (ps : Processes) (c : Cpu) (m : Memory) (store : List (List ℕ × List ℕ)) (st : Strategy) (d e : ExecRefusal) →
      place d < place e → ExecRefused up ps c m store st d → ExecRefused up ps c m store st e → ⊥
  clash ps c m store st Function Function l x y = absurd (omega arith)
  clash ps c m store st Function NotFound l x y = x y.0
  clash ps c m store st Function BadFormat l x y = x y.0
  clash ps c m store st Function Environment l x y = x y.0
  clash ps c m store st Function Destroyed l x y = x y.0.action
  clash ps c m store st Function Short l x y = x y.0.action
  clash ps c m store st NotFound Function l x y = absurd (omega arith)
  clash ps c m store st NotFound NotFound l x y = absurd (omega arith)
  clash ps c m store st NotFound BadFormat l x y = (let b = y.1 in named_none c m store b.0 b.1 b.2 x.1)
  clash ps c m store st NotFound Environment l x y = good_refused c m store y.1.0 y.1.1 y.1.2 NotFound x.1
  clash ps c m store st NotFound Destroyed l x y = good_refused c m store y.0.name y.0.file y.0.names NotFound x.1
  clash ps c m store st NotFound Short l x y = good_refused c m store y.0.name y.0.file y.0.names NotFound x.1
  clash ps c m store st BadFormat Function l x y = absurd (omega arith)
  clash ps c m store st BadFormat NotFound l x y = absurd (omega arith)
  clash ps c m store st BadFormat BadFormat l x y = absurd (omega arith)
  clash ps c m store st BadFormat Environment l x y = good_refused c m store y.1.0 y.1.1 y.1.2 BadFormat x.1
  clash ps c m store st BadFormat Destroyed l x y = good_refused c m store y.0.name y.0.file y.0.names BadFormat x.1
  clash ps c m store st BadFormat Short l x y = good_refused c m store y.0.name y.0.file y.0.names BadFormat x.1
  clash ps c m store st Environment Function l x y = absurd (omega arith)
  clash ps c m store st Environment NotFound l x y = absurd (omega arith)
  clash ps c m store st Environment BadFormat l x y = absurd (omega arith)
  clash ps c m store st Environment Environment l x y = absurd (omega arith)
  clash ps c m store st Environment Destroyed l x y = no_variables m _ y.0.variables x.2 y.0.old
  clash ps c m store st Environment Short l x y = no_variables m _ y.0.variables x.2 y.0.old
  clash ps c m store st Destroyed Function l x y = absurd (omega arith)
  clash ps c m store st Destroyed NotFound l x y = absurd (omega arith)
  clash ps c m store st Destroyed BadFormat l x y = absurd (omega arith)
  clash ps c m store st Destroyed Environment l x y = absurd (omega arith)
  clash ps c m store st Destroyed Destroyed l x y = absurd (omega arith)
  clash ps c m store st Destroyed Short l x y = destroyed_short ps c m store st x y
  clash ps c m store st Short Function l x y = absurd (omega arith)
  clash ps c m store st Short NotFound l x y = absurd (omega arith)
  clash ps c m store st Short BadFormat l x y = absurd (omega arith)
  clash ps c m store st Short Environment l x y = absurd (omega arith)
  clash ps c m store st Short Destroyed l x y = absurd (omega arith)
  clash ps c m store st Short Short l x y = absurd (omega arith)

  refused_same : (ps : Processes) (c : Cpu) (m : Memory) (store : List (List ℕ × List ℕ)) (st : Strategy)
      (d e : ExecRefusal) → ExecRefused up ps c m store st d → ExecRefused up ps c m store st e → d ≡ e
  refused_same ps c m store st d e x y =
      place-same d e (compared (place d) (place e) (λ l. clash ps c m store st d e l x y)
      (λ l. clash ps c m store st e d l y x))

  pub exec_unique : (ps : Processes) (c : Cpu) (m : Memory) (store : List (List ℕ × List ℕ)) (st : Strategy)
      (r q : Result (Unit {0}) ExecRefusal) (p₁ p₂ : Processes) (c₁ c₂ : Cpu) (m₁ m₂ : Memory) →
      Executes up ps c m store st r p₁ c₁ m₁ → Executes up ps c m store st q p₂ c₂ m₂ → (r ≡ q) × (p₁ ≡ p₂) ×
      (c₁ ≡ c₂) × (m₁ ≡ m₂)
  exec_unique ps c m store st (Ok u) (Ok v) p₁ p₂ c₁ c₂ m₁ m₂ x y =
      (let e = execs_unique ps c m store st p₁ p₂ c₁ c₂ m₁ m₂ x y in (refl, e.0, e.1, e.2))
  exec_unique ps c m store st (Ok u) (Err e) p₁ p₂ c₁ c₂ m₁ m₂ x y =
      absurd (exec_refused ps c m store st p₁ c₁ m₁ x e y.3)
  exec_unique ps c m store st (Err e) (Ok v) p₁ p₂ c₁ c₂ m₁ m₂ x y =
      absurd (exec_refused ps c m store st p₂ c₂ m₂ y e x.3)
  exec_unique ps c m store st (Err d) (Err e) p₁ p₂ c₁ c₂ m₁ m₂ x y = (
    ap (λ (z : ExecRefusal). Err z) (refused_same ps c m store st d e x.3 y.3),
    x.0 ∙ sym y.0,
    x.1 ∙ sym y.1,
    x.2 ∙ sym y.2,
  )

  -- the first program
  pub load_unique : (m : Memory) (st : Strategy) (file variables name : List ℕ) (a : Passed) (r q : Result (Processes ×
      Cpu) ExecRefusal) (m₁ m₂ : Memory) →
      Loads up m st file variables name a r m₁ → Loads up m st file variables name a q m₂ → (r ≡ q) × (m₁ ≡ m₂)
  load_unique m st file variables name a (Ok d) (Ok e) m₁ m₂ x y =
      let u = starts_unique m st _ _ _ _ x.placed y.placed m₁ m₂ x.starts y.starts in (
        ap₂ (λ (z : Processes) (k : Cpu). Ok (z, k))
            (x.processes ∙ ap (λ (z : Placed). let ps : Processes = record {
              present = z.program;
              parents = [];
              code = 0;
            } in ps) u.0 ∙ sym y.processes)
            (x.registers ∙ ap (λ (z : Placed). start_registers z file) u.0 ∙ sym y.registers),
        u.1,
      )
  load_unique m st file variables name a (Ok d) (Err e) m₁ m₂ x y =
      absurd (planned_refused m st _ _ e (started_planned _ _ _ _ _ _ _ _ x.starts) y.1)
  load_unique m st file variables name a (Err e) (Ok d) m₁ m₂ x y =
      absurd (planned_refused m st _ _ e (started_planned _ _ _ _ _ _ _ _ y.starts) x.1)
  load_unique m st file variables name a (Err d) (Err e) m₁ m₂ x y =
      (ap (λ (z : ExecRefusal). Err z) (plan_refused_same m st _ _ d e x.1 y.1), x.0 ∙ sym y.0)

  pub terminating_unique : (ps : Processes) (c : Cpu) (m : Memory) (code : ℕ) (r q : Result Ending ArenaDestroyed)
      (p₁ p₂ : Processes) (c₁ c₂ : Cpu) (m₁ m₂ : Memory) →
      Terminates up ps c m code r p₁ c₁ m₁ → Terminates up ps c m code q p₂ c₂ m₂ → (r ≡ q) × (p₁ ≡ p₂) × (c₁ ≡ c₂) ×
      (m₁ ≡ m₂)
  terminating_unique ps c m code (Ok d) (Ok e) p₁ p₂ c₁ c₂ m₁ m₂ x y =
      let same = (releasing_unique up m ps.present (Ok tt) (Ok tt) x.0 y.0 x.1 y.1).1 in
      let u = ends_unique ps c x.0 y.0 code d e p₁ p₂ c₁ c₂ m₁ m₂ same x.2 y.2 in
      (ap (λ (z : Ending). Ok z) u.0, u.1, u.2, u.3)
  terminating_unique ps c m code (Ok d) (Err e) p₁ p₂ c₁ c₂ m₁ m₂ x y =
      absurd (served-clash _ _ refl refl (releasing_unique up m ps.present (Ok tt) (Err arena.Destroyed) x.0 m x.1
      y.3).0)
  terminating_unique ps c m code (Err e) (Ok d) p₁ p₂ c₁ c₂ m₁ m₂ x y =
      absurd (served-clash _ _ refl refl (releasing_unique up m ps.present (Ok tt) (Err arena.Destroyed) y.0 m y.1
      x.3).0)
  terminating_unique ps c m code (Err d) (Err e) p₁ p₂ c₁ c₂ m₁ m₂ x y = (
    refl,
    x.0 ∙ sym y.0,
    x.1 ∙ sym y.1,
    x.2 ∙ sym y.2,
  )

  pub keeping_unique : (ps : Processes) (c : Cpu) (m : Memory) (code n : ℕ) (r q : Result Ending ArenaDestroyed)
      (p₁ p₂ : Processes) (c₁ c₂ : Cpu) (m₁ m₂ : Memory) →
      StaysResident up ps c m code n r p₁ c₁ m₁ → StaysResident up ps c m code n q p₂ c₂ m₂ → (r ≡ q) × (p₁ ≡ p₂) ×
      (c₁ ≡ c₂) × (m₁ ≡ m₂)
  keeping_unique ps c m code n (Ok d) (Ok e) p₁ p₂ c₁ c₂ m₁ m₂ x y =
      let same = (resizing_unique up m ps.present n x.0 y.0 x.1 y.1 x.2 y.2).1 in
      let u = ends_unique ps c x.1 y.1 (0x300 + code) d e p₁ p₂ c₁ c₂ m₁ m₂ same x.4 y.4 in
      (ap (λ (z : Ending). Ok z) u.0, u.1, u.2, u.3)
  keeping_unique ps c m code n (Ok d) (Err e) p₁ p₂ c₁ c₂ m₁ m₂ x y =
      absurd (x.3 (resizing_unique up m ps.present n x.0 (Err arena.Destroyed) x.1 m x.2 y.3).0)
  keeping_unique ps c m code n (Err e) (Ok d) p₁ p₂ c₁ c₂ m₁ m₂ x y =
      absurd (y.3 (resizing_unique up m ps.present n y.0 (Err arena.Destroyed) y.1 m y.2 x.3).0)
  keeping_unique ps c m code n (Err d) (Err e) p₁ p₂ c₁ c₂ m₁ m₂ x y = (
    refl,
    x.0 ∙ sym y.0,
    x.1 ∙ sym y.1,
    x.2 ∙ sym y.2,
  )
