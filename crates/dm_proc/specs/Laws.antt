-- Laws of the calls on processes (4Bh with AL = 0 and 3, the load of the first program, 4Ch and 31h): each call has one
-- result, a loaded program stays loaded, and no call depends on bytes that no program can see.
use Rattle.std.specs.Prelude.{◌≡◌, ℕ, Bool, List, Result, Ok}
use Rattle.dm_space.specs.Memory.{Memory}
use Rattle.dm_space.specs.Unseen.{IsUnseen}
use Rattle.dm_arena.specs.declared.fit.Strategy.{Strategy}
use Rattle.dm_cpu.specs.declared.cpu.Cpu.{Cpu}
use Rattle.dm_proc.specs.declared.parent.Ending.{Ending}
use Rattle.dm_proc.specs.declared.refusal.ExecRefusal.{ExecRefusal}
use Rattle.dm_proc.specs.declared.refusal.ArenaDestroyed.{ArenaDestroyed}
use Rattle.dm_proc.specs.Request.{Passed}
use Rattle.dm_proc.specs.Processes.{Processes, AreLoaded, Executes, Loads, Overlays, Terminates, StaysResident}

-- starting a child (4Bh with AL = 0) has one result, and leaves one state
abbrev pub StartingHasOneAnswer : Type 0
StartingHasOneAnswer =
    (upper : Bool) (ps : Processes) (c : Cpu) (m : Memory) (store : List (List ℕ × List ℕ)) (strategy : Strategy)
    (r q : Result (Unit {0}) ExecRefusal)
    (ps₁ ps₂ : Processes) (c₁ c₂ : Cpu) (m₁ m₂ : Memory) →
    Executes upper ps c m store strategy r ps₁ c₁ m₁ → Executes upper ps c m store strategy q ps₂ c₂ m₂ → (r ≡ q) ×
    (ps₁ ≡ ps₂) × (c₁ ≡ c₂) × (m₁ ≡ m₂)

-- loading the first program has one result, and leaves one memory
abbrev pub LoadHasOneAnswer : Type 0
LoadHasOneAnswer =
    (upper : Bool) (m : Memory) (strategy : Strategy) (file variables name : List ℕ) (a : Passed)
    (r q : Result (Processes × Cpu) ExecRefusal) (m₁ m₂ : Memory) →
    Loads upper m strategy file variables name a r m₁ → Loads upper m strategy file variables name a q m₂ → (r ≡ q) ×
    (m₁ ≡ m₂)

-- loading an overlay (4Bh with AL = 3) has one result, and leaves one memory
abbrev pub OverlayHasOneAnswer : Type 0
OverlayHasOneAnswer =
    (c : Cpu) (m : Memory) (store : List (List ℕ × List ℕ)) (r q : Result (Unit {0}) ExecRefusal) (m₁ m₂ : Memory) →
    Overlays c m store r m₁ → Overlays c m store q m₂ → (r ≡ q) × (m₁ ≡ m₂)

-- ending a process with an exit code (00h, 4Ch and the like) has one result, and leaves one state
abbrev pub TerminatingHasOneAnswer : Type 0
TerminatingHasOneAnswer =
    (upper : Bool) (ps : Processes) (c : Cpu) (m : Memory) (code : ℕ) (r q : Result Ending ArenaDestroyed)
    (ps₁ ps₂ : Processes) (c₁ c₂ : Cpu) (m₁ m₂ : Memory) →
    Terminates upper ps c m code r ps₁ c₁ m₁ → Terminates upper ps c m code q ps₂ c₂ m₂ → (r ≡ q) × (ps₁ ≡ ps₂) ×
    (c₁ ≡ c₂) × (m₁ ≡ m₂)

-- ending a process that stays resident (31h) has one result, and leaves one state
abbrev pub StayingResidentHasOneAnswer : Type 0
StayingResidentHasOneAnswer =
    (upper : Bool) (ps : Processes) (c : Cpu) (m : Memory) (code paragraphs : ℕ) (r q : Result Ending ArenaDestroyed)
    (ps₁ ps₂ : Processes) (c₁ c₂ : Cpu) (m₁ m₂ : Memory) →
    StaysResident upper ps c m code paragraphs r ps₁ c₁ m₁ → StaysResident upper ps c m code paragraphs q ps₂ c₂ m₂ →
    (r ≡ q) × (ps₁ ≡ ps₂) × (c₁ ≡ c₂) × (m₁ ≡ m₂)

-- once a program is loaded, each call that takes processes leaves one loaded; and loading the first program does, if it
-- succeeds
pub record CallsKeepLoaded : Type 0 where
  pub starting : (upper : Bool) (ps : Processes) (c : Cpu) (m : Memory) (store : List (List ℕ ×
      List ℕ)) (strategy : Strategy) (r : Result (Unit {0}) ExecRefusal) (qs : Processes) (d : Cpu) (n : Memory) →
      Executes upper ps c m store strategy r qs d n → AreLoaded ps → AreLoaded qs
  pub load : (upper : Bool) (m : Memory) (strategy : Strategy) (file variables name : List ℕ) (a : Passed)
      (qs : Processes) (d : Cpu) (n : Memory) →
      Loads upper m strategy file variables name a (Ok (qs, d)) n → AreLoaded qs
  pub terminating : (upper : Bool) (ps : Processes) (c : Cpu) (m : Memory) (code : ℕ) (r : Result Ending ArenaDestroyed)
      (qs : Processes) (d : Cpu) (n : Memory) →
      Terminates upper ps c m code r qs d n → AreLoaded ps → AreLoaded qs
  pub staying : (upper : Bool) (ps : Processes) (c : Cpu) (m : Memory) (code paragraphs : ℕ)
      (r : Result Ending ArenaDestroyed) (qs : Processes) (d : Cpu) (n : Memory) →
      StaysResident upper ps c m code paragraphs r qs d n → AreLoaded ps → AreLoaded qs

-- each call returns the same on memory with this change as without it, and leaves the same but for the change
pub record CallsIgnoreUnseen (change : Memory → Memory) : Type 0 where
  pub starting : (upper : Bool) (ps : Processes) (c : Cpu) (m : Memory) (store : List (List ℕ ×
      List ℕ)) (strategy : Strategy) (r : Result (Unit {0}) ExecRefusal) (qs : Processes) (d : Cpu) (n : Memory) →
      Executes upper ps c m store strategy r qs d n → Executes upper ps c (change m) store strategy r qs d (change n)
  pub load : (upper : Bool) (m : Memory) (strategy : Strategy) (file variables name : List ℕ) (a : Passed)
      (r : Result (Processes × Cpu) ExecRefusal) (n : Memory) →
      Loads upper m strategy file variables name a r n → Loads upper (change m) strategy file variables name a r
      (change n)
  pub overlay : (c : Cpu) (m : Memory) (store : List (List ℕ × List ℕ)) (r : Result (Unit {0}) ExecRefusal)
      (n : Memory) →
      Overlays c m store r n → Overlays c (change m) store r (change n)
  pub terminating : (upper : Bool) (ps : Processes) (c : Cpu) (m : Memory) (code : ℕ) (r : Result Ending ArenaDestroyed)
      (qs : Processes) (d : Cpu) (n : Memory) →
      Terminates upper ps c m code r qs d n → Terminates upper ps c (change m) code r qs d (change n)
  pub staying : (upper : Bool) (ps : Processes) (c : Cpu) (m : Memory) (code paragraphs : ℕ)
      (r : Result Ending ArenaDestroyed) (qs : Processes) (d : Cpu) (n : Memory) →
      StaysResident upper ps c m code paragraphs r qs d n → StaysResident upper ps c (change m) code paragraphs r qs d
      (change n)

-- the calls neither depend on bytes that no program can see nor change them
abbrev pub IgnoresUnseen : Type 0
IgnoresUnseen = (change : Memory → Memory) → IsUnseen change → CallsIgnoreUnseen change
