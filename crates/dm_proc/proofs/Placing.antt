-- What is planned is written
use Rattle.std.proofs.Common.{Bool, ◌≡◌, ℕ, ◌≤◌, false, List, [], ◌∷◌, ◌++◌, length, take, inl, refl, ◌∙◌, ap, subst, arith}
use Rattle.dm_space.specs.Memory.{Memory}
use Rattle.dm_arena.specs.declared.fit.Strategy.{Strategy}
use Rattle.dm_blocks.specs.Chain.{first_header}
use Rattle.dm_arena.specs.Pair.{Planned, IsPair, IsPlannedOn}
use Rattle.dm_load.specs.Image.{is_mz}
use Rattle.dm_proc.specs.Request.{action, NamesGood, Passed, environment_segment}
use Rattle.dm_proc.specs.Environment.{AreVariables, environment}
use Rattle.dm_proc.specs.inner.Environment.{IsMade}
use Rattle.dm_cpu.specs.declared.cpu.Cpu.{Cpu}
use Rattle.dm_proc.specs.Room.{paragraphs, least, most}
use Rattle.dm_proc.specs.declared.refusal.ExecRefusal.{ExecRefusal}
use Rattle.dm_arena.specs.Pair.{Placed, placed_of}
use Rattle.dm_proc.specs.Processes.{Processes, IsPlanned, PlanRefused, Starts, Asks, environment_of, ExecRefused}
use Rattle.dm_proc.specs.inner.Processes.{IsWritten}
use Rattle.dm_proc.specs.declared.refusal.ExecRefusal.TheVariants.{Function, NotFound, BadFormat, Environment, Destroyed, Short}

-- a COM program's block has room for the prefix and a word
pub com_room : (file : List ℕ) (size : ℕ) → least file ≤ size → is_mz file ≡ false → 0x11 ≤ size
unfolding least
com_room file size h e = (let g = rw e at h in omega arith)

pub begun : (ps qs : Processes) (segment program : ℕ) (d e : Cpu) → segment ≡ program → d ≡ e →
    qs ≡ record ps { present = segment; parents = ps.parents ++ record { segment = ps.present; cpu = d } ∷ [] } →
    qs ≡ record ps { present = program; parents = ps.parents ++ record { segment = ps.present; cpu = e } ∷ [] }
begun ps qs segment program d e f g h =
    h ∙ ap (λ k. record ps { present = k; parents = ps.parents ++ record { segment = ps.present; cpu = d } ∷ [] }) f
    ∙ ap (λ (x : Cpu). record ps {
      present = program;
      parents = ps.parents ++ record {
        segment = ps.present;
        cpu = x;
      } ∷ [];
    }) g

-- what was read for a start
module _ (ps : Processes) (c : Cpu) (m : Memory) (store : List (List ℕ × List ℕ)) (name asked file : List ℕ)
    (segment present count : ℕ) (scratch : List ℕ)
    (does : action c ≡ 0) (names : NamesGood c m store name file) (at : segment ≡ environment_segment m present c)
    (own : present ≡ ps.present) (same : asked ≡ name)
    (made : IsMade m segment asked count scratch) where
  abbrev pub asks : Asks ps c m store
  asks =
      let P : ℕ → Type 0 = λ k. AreVariables m k made.variables in
      record {
        action = does;
        name = name;
        file = file;
        names = names;
        variables = made.variables;
        old = subst P (at ∙ ap (λ p. environment_segment m p c) own) made.old;
      }

  pub bytes : take count scratch ≡ environment_of asks
  bytes = made.bytes ∙ ap (environment made.variables) same

  pub whole : count ≡ length (environment_of asks)
  whole = made.whole ∙ ap (λ xs. length (environment made.variables xs)) same

module _ (up : Bool) where
  -- a plan for a program
  abbrev pub IsPlan : Memory → Strategy → ℕ → List ℕ → Planned → Type 0
  IsPlan m strategy count file pair = IsPair up m first_header strategy (paragraphs count) (least file) (most file) pair

  abbrev pub planned_on : (m : Memory) (strategy : Strategy) (count : ℕ) (file : List ℕ) (pair : Planned) →
      IsPlan m strategy count file pair → IsPlannedOn up m pair
  planned_on m strategy count file pair p = record {
    strategy = strategy;
    environment = paragraphs count;
    least = least file;
    most = most file;
    planned = p;
  }

  module _ (m : Memory) (strategy : Strategy) (environment file : List ℕ) (parent : ℕ) (a : Passed) (pair : Planned)
      (n : Memory) where
    abbrev Makes : ℕ → Type 0
    Makes count = (p : IsPlan m strategy count file pair) →
        IsWritten up m pair (planned_on m strategy count file pair p) environment file parent a n →
        Starts up m strategy environment file parent a (placed_of pair) n

    exact : Makes (length environment)
    exact p w = record { middle = w.middle; plans = (pair, p, refl, w.becomes); memory = w.memory }

    pub starts : (count : ℕ) → length environment ≡ count → Makes count
    starts count e = subst Makes e exact

  pub refused_at : (m n : Memory) (strategy : Strategy) (k count : ℕ) (file : List ℕ) (e : ExecRefusal) → n ≡ m →
      k ≡ count → PlanRefused up n strategy k file e → PlanRefused up m strategy count file e
  refused_at m n strategy k count file e f g h =
      let P : Memory → Type 0 = λ s. PlanRefused up s strategy k file e in
      let Q : ℕ → Type 0 = λ j. PlanRefused up m strategy j file e in
      subst Q g (subst P f h)

  pub started_at : (m n l : Memory) (strategy : Strategy) (xs ys file : List ℕ) (p parent : ℕ) (b a : Passed)
      (placed : Placed) → n ≡ m → xs ≡ ys → p ≡ parent → b ≡ a →
      Starts up n strategy xs file p b placed l → Starts up m strategy ys file parent a placed l
  started_at m n l strategy xs ys file p parent b a placed f g i j h =
      let P : Memory → Type 0 = λ s. Starts up s strategy xs file p b placed l in
      let Q : List ℕ → Type 0 = λ zs. Starts up m strategy zs file p b placed l in
      let R : ℕ → Type 0 = λ k. Starts up m strategy ys file k b placed l in
      let T : Passed → Type 0 = λ t. Starts up m strategy ys file parent t placed l in
      subst T j (subst R i (subst Q g (subst P f h)))

  pub planned_at : (m n : Memory) (strategy : Strategy) (k count : ℕ) (file : List ℕ) (pair : Planned) → n ≡ m →
      k ≡ count → IsPlan n strategy k file pair → IsPlanned up m strategy count file
  planned_at m n strategy k count file pair f g h =
      let P : Memory → Type 0 = λ s. IsPlan s strategy k file pair in
      let Q : ℕ → Type 0 = λ j. IsPlan m strategy j file pair in
      (pair, subst Q g (subst P f h))

  -- a refused plan refuses the call
  pub plan_refused : (ps : Processes) (c : Cpu) (m : Memory) (store : List (List ℕ × List ℕ)) (strategy : Strategy)
      (a : Asks ps c m store) (e : ExecRefusal) →
      PlanRefused up m strategy (length (environment_of a)) a.file e → ExecRefused up ps c m store strategy e
  plan_refused ps c m store strategy a Destroyed h = (a, h)
  plan_refused ps c m store strategy a Short h = (a, inl h)
  plan_refused ps c m store strategy a Function h = absurd h
  plan_refused ps c m store strategy a NotFound h = absurd h
  plan_refused ps c m store strategy a BadFormat h = absurd h
  plan_refused ps c m store strategy a Environment h = absurd h
