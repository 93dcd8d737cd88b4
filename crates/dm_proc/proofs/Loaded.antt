-- A loaded program stays loaded
use Rattle.std.proofs.Common.{Bool, ◌≡◌, ℕ, zero, suc, ◌+◌, ◌<◌, List, [], ◌∷◌, ◌++◌, length, sym, ap, subst, arith, Result, Ok, Err}
use Rattle.std.specs.List.{All}
use Rattle.std.proofs.lemmas.List.Elements.{All-append, All-take, All-drop}
use Rattle.std.proofs.Math.Seq.{take-append_seam, drop-append_seam}
use Rattle.dm_space.specs.Memory.{Memory}
use Rattle.dm_arena.specs.declared.fit.Strategy.{Strategy}
use Rattle.dm_arena.specs.Pair.{Placed}
use Rattle.dm_cpu.specs.declared.cpu.Cpu.{Cpu}
use Rattle.dm_proc.specs.declared.parent.Parent.{Parent}
use Rattle.dm_proc.specs.declared.parent.Ending.{Ending}
use Rattle.dm_proc.specs.declared.parent.Ending.TheVariants.{Returned, Exited}
use Rattle.dm_proc.specs.declared.refusal.ExecRefusal.{ExecRefusal}
use Rattle.dm_proc.specs.declared.refusal.ArenaDestroyed.{ArenaDestroyed}
use Rattle.dm_proc.specs.Request.{Passed}
use Rattle.dm_proc.specs.Processes.{Processes, AreLoaded, Starts, Executes, Loads, GoesOn, Terminates, StaysResident}
use Rattle.dm_proc.specs.Laws.{CallsKeepLoaded}

abbrev HasSegment : Parent → Type 0
HasSegment p = 0 < p.segment

one : (p : Parent) → HasSegment p → All HasSegment (p ∷ [])
one p h zero d l = h
one p h (suc k) d l = absurd (omega arith)

at : (ps qs : Processes) → qs ≡ ps → AreLoaded ps → AreLoaded qs
at ps qs e h = subst AreLoaded (sym e) h

none : All HasSegment []
none k d l = absurd (omega arith)

goes_on_loaded : (ps : Processes) (c : Cpu) (word : ℕ) (e : Ending) (qs : Processes) (d : Cpu) →
    GoesOn ps c word e qs d → AreLoaded ps → AreLoaded qs
goes_on_loaded ps c word Returned qs d g h =
    let whole : All HasSegment (qs.parents ++ g.0 ∷ []) = subst (All HasSegment) g.1 h.parents in
    let first : All HasSegment qs.parents = subst (All HasSegment) (take-append_seam qs.parents (g.0
    ∷ [])) (All-take HasSegment (length qs.parents) _ whole) in
    let last : All HasSegment (g.0 ∷ []) = subst (All HasSegment) (drop-append_seam qs.parents (g.0
    ∷ [])) (All-drop HasSegment (length qs.parents) _ whole) in
    let present : 0 < g.0.segment = last 0 g.0 (omega arith) in
    at _ qs g.2 (record { present = present; parents = first })
goes_on_loaded ps c word Exited qs d g h = at _ qs g.1 (record { present = h.present; parents = h.parents })

module _ (up : Bool) where
  placed_over_0 : (m : Memory) (st : Strategy) (env file : List ℕ) (parent : ℕ) (a : Passed) (placed : Placed)
      (n : Memory) → Starts up m st env file parent a placed n → 0 < placed.program
  placed_over_0 m st env file parent a placed n s =
      let e : placed.program ≡ s.plans.0.program = ap (λ p. p.program) s.plans.2 in
      let o = s.plans.1.pairing.owner_is in
      omega arith

  exec_loaded : (ps : Processes) (c : Cpu) (m : Memory) (store : List (List ℕ × List ℕ)) (st : Strategy)
      (r : Result (Unit {0}) ExecRefusal) (qs : Processes) (d : Cpu) (n : Memory) →
      Executes up ps c m store st r qs d n → AreLoaded ps → AreLoaded qs
  exec_loaded ps c m store st (Ok x) qs d n e h =
      at _ qs e.processes (record {
        present = placed_over_0 m st _ _ _ _ e.placed n e.starts;
        parents = All-append HasSegment ps.parents _ h.parents (one _ h.present);
      })
  exec_loaded ps c m store st (Err x) qs d n e h = at ps qs e.0 h

  load_loaded : (m : Memory) (st : Strategy) (file variables name : List ℕ) (a : Passed) (qs : Processes) (d : Cpu)
      (n : Memory) → Loads up m st file variables name a (Ok (qs, d)) n → AreLoaded qs
  load_loaded m st file variables name a qs d n e =
      at _ qs e.processes (record { present = placed_over_0 m st _ _ _ _ e.placed n e.starts; parents = none })

  terminating_loaded : (ps : Processes) (c : Cpu) (m : Memory) (code : ℕ) (r : Result Ending ArenaDestroyed)
      (qs : Processes) (d : Cpu) (n : Memory) →
      Terminates up ps c m code r qs d n → AreLoaded ps → AreLoaded qs
  terminating_loaded ps c m code (Ok e) qs d n x h = goes_on_loaded ps c code e qs d x.2.goes_on h
  terminating_loaded ps c m code (Err e) qs d n x h = at ps qs x.0 h

  keeping_loaded : (ps : Processes) (c : Cpu) (m : Memory) (code k : ℕ) (r : Result Ending ArenaDestroyed)
      (qs : Processes) (d : Cpu) (n : Memory) →
      StaysResident up ps c m code k r qs d n → AreLoaded ps → AreLoaded qs
  keeping_loaded ps c m code k (Ok e) qs d n x h = goes_on_loaded ps c (0x300 + code) e qs d x.4.goes_on h
  keeping_loaded ps c m code k (Err e) qs d n x h = at ps qs x.0 h

pub keep_loaded : CallsKeepLoaded
keep_loaded = record {
  starting = exec_loaded;
  load = load_loaded;
  terminating = terminating_loaded;
  staying = keeping_loaded;
}
