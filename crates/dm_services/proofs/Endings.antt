-- The calls that start and end programs, from what the processes answer
use Rattle.std.proofs.Common.{◌≡◌, ℕ, ◌<◌, Result, Ok, Err, false, sym, ◌∙◌, ap, subst}
use Rattle.dm_space.specs.Memory.{Memory}
use Rattle.dm_cpu.specs.declared.cpu.Cpu.{Cpu}
use Rattle.dm_cpu.specs.Cpu.{byte_of}
use Rattle.dm_ins.specs.declared.operand.ByteRegister.TheVariants.{Al}
use Rattle.dm_proc.specs.declared.refusal.ExecRefusal.{ExecRefusal}
use Rattle.dm_proc.specs.declared.refusal.ArenaDestroyed.{ArenaDestroyed}
use Rattle.dm_proc.specs.declared.parent.Ending.{Ending}
use Rattle.dm_proc.specs.declared.parent.Ending.TheVariants.{Returned, Exited}
use Rattle.dm_proc.specs.Processes.{Processes, AreLoaded, Executes, Overlays, Terminates, StaysResident}
use Rattle.dm_services.specs.declared.state.stop.Stop.TheVariants as stop
use Rattle.dm_services.specs.state.State.{State, Answer, HasProgram, go, stop_at}
use Rattle.dm_services.specs.state.inner.State.{HaveSegments}
use Rattle.dm_services.specs.Allocation.{answered}
use Rattle.dm_services.specs.Processes.{with_processes, not_loaded, concluded, Executing, Overlaying, Terminating, StayingResident}
use Rattle.dm_services.proofs.Calls.{going}

-- a program is loaded
pub loaded : (s v : State) → v ≡ s → HasProgram s → HaveSegments v.processes.parents → AreLoaded v.processes
loaded s v e h a = record { present = subst (λ (w : State). 0 < w.processes.present) (sym e) h; parents = a }

-- what has not changed
same-state : (v : State) (qs : Processes) (d : Cpu) (n : Memory) → qs ≡ v.processes → d ≡ v.cpu → n ≡ v.memory →
    with_processes v qs d n ≡ v
same-state v qs d n e f g = λ i. record v { cpu = f i; memory = g i; processes = e i }

pub executing-started : (s v : State) (qs : Processes) (d : Cpu) (n : Memory) (t : State) → v ≡ s →
    Executes v.upper v.processes v.cpu v.memory v.programs v.strategy (Ok tt) qs d n →
    t ≡ (go (with_processes v qs d n)).state → Executing s (going t)
executing-started s v qs d n t is x h =
    subst (λ w. Executing w (going t)) is (record {
      result = Ok tt;
      processes = qs;
      cpu = d;
      memory = n;
      executes = x;
      answer = ap going h;
    })

pub executing-refused : (s v : State) (e : ExecRefusal) (qs : Processes) (d : Cpu) (n : Memory) (t : State) → v ≡ s →
    Executes v.upper v.processes v.cpu v.memory v.programs v.strategy (Err e) qs d n →
    t ≡ (not_loaded (with_processes v qs d n) e).state → Executing s (going t)
executing-refused s v e qs d n t is x h =
    let same = same-state v qs d n x.0 x.1 x.2 in
    subst (λ w. Executing w (going t)) is (record {
      result = Err e;
      processes = qs;
      cpu = d;
      memory = n;
      executes = x;
      answer = ap going h ∙ ap (λ (w : State). not_loaded w e) same;
    })

pub overlaying-loaded : (s v : State) (n : Memory) (t : State) → v ≡ s → Overlays v.cpu v.memory v.programs (Ok tt) n →
    t ≡ (answered v v.cpu n false).state → Overlaying s (going t)
overlaying-loaded s v n t is x h = subst (λ w. Overlaying w (going t)) is (record {
  result = Ok tt;
  memory = n;
  overlays = x;
  answer = ap going h;
})

pub overlaying-refused : (s v : State) (e : ExecRefusal) (n : Memory) (t : State) → v ≡ s →
    Overlays v.cpu v.memory v.programs (Err e) n → t ≡ (not_loaded (record v { memory = n }) e).state →
    Overlaying s (going t)
overlaying-refused s v e n t is x h =
    subst (λ w. Overlaying w (going t)) is (record {
      result = Err e;
      memory = n;
      overlays = x;
      answer = ap going h ∙ ap (λ (m : Memory). not_loaded (record v { memory = m }) e) x.0;
    })

pub terminating-of : (s v : State) (code : ℕ) (r : Result Ending ArenaDestroyed) (qs : Processes) (d : Cpu) (n : Memory)
    (x : Answer) → v ≡ s → Terminates v.upper v.processes v.cpu v.memory code r qs d n →
    x ≡ concluded (with_processes v qs d n) code r qs d n → Terminating s code x
terminating-of s v code (Ok Returned) qs d n x is t h =
    subst (λ w. Terminating w code x) is (record {
      result = Ok Returned;
      processes = qs;
      cpu = d;
      memory = n;
      terminates = t;
      answer = h;
    })
terminating-of s v code (Ok Exited) qs d n x is t h =
    subst (λ w. Terminating w code x) is (record {
      result = Ok Exited;
      processes = qs;
      cpu = d;
      memory = n;
      terminates = t;
      answer = h;
    })
terminating-of s v code (Err e) qs d n x is t h =
    let same = same-state v qs d n t.0 t.1 t.2 in
    subst (λ w. Terminating w code x) is (record {
      result = Err e;
      processes = qs;
      cpu = d;
      memory = n;
      terminates = t;
      answer = h ∙ ap (stop_at stop.Destroyed) same;
    })

keeping-as : (s : State) (r : Result Ending ArenaDestroyed) (qs : Processes) (d : Cpu) (n : Memory) (x : Answer) →
    StaysResident s.upper s.processes s.cpu s.memory (byte_of s.cpu Al) s.cpu.dx r qs d n →
    x ≡ concluded (with_processes s qs d n) (byte_of s.cpu Al) r qs d n → StayingResident s x
keeping-as s (Ok Returned) qs d n x t h = record {
  result = Ok Returned;
  processes = qs;
  cpu = d;
  memory = n;
  stays = t;
  answer = h;
}
keeping-as s (Ok Exited) qs d n x t h = record {
  result = Ok Exited;
  processes = qs;
  cpu = d;
  memory = n;
  stays = t;
  answer = h;
}
keeping-as s (Err e) qs d n x t h =
    let same = same-state s qs d n t.0 t.1 t.2 in
    record {
      result = Err e;
      processes = qs;
      cpu = d;
      memory = n;
      stays = t;
      answer = h ∙ ap (stop_at stop.Destroyed) same;
    }

pub keeping-of : (s v : State) (code : ℕ) (r : Result Ending ArenaDestroyed) (qs : Processes) (d : Cpu) (n : Memory)
    (x : Answer) → v ≡ s → code ≡ byte_of v.cpu Al →
    StaysResident v.upper v.processes v.cpu v.memory code v.cpu.dx r qs d n →
    x ≡ concluded (with_processes v qs d n) code r qs d n → StayingResident s x
keeping-of s v code r qs d n x is e t h =
    subst (λ w. StayingResident w x) is
    (keeping-as v r qs d n x (subst (λ b. StaysResident v.upper v.processes v.cpu v.memory b v.cpu.dx r qs d n) e t)
    (subst (λ b. x ≡ concluded (with_processes v qs d n) b r qs d n) e h))
