-- The calls that allocate, from what the arena answers
use Rattle.std.proofs.Common.{◌≡◌, ℕ, Bool, None, Ok, Err, true, false, ◌∙◌, ap, subst}
use Rattle.dm_space.specs.Memory.{Memory}
use Rattle.dm_cpu.specs.declared.cpu.Cpu.{Cpu}
use Rattle.dm_arena.specs.declared.refusal.ArenaRefusal.{ArenaRefusal}
use Rattle.dm_arena.specs.Allocation.{Allocates}
use Rattle.dm_arena.specs.Owned.{Frees, Resizes}
use Rattle.dm_arena.specs.Linking.{Links}
use Rattle.dm_services.specs.state.State.{State, Answer}
use Rattle.dm_services.specs.Allocation.{answered, refused, Allocation, Freeing, Resizing}
use Rattle.dm_services.specs.Strategies.{Linking}

-- a step after which the machine goes on
abbrev pub going : State → Answer
going t = record { stop = None; state = t }

pub allocation-served : (s v : State) (o n : ℕ) (m : Memory) (t : State) → v ≡ s → o ≡ v.processes.present →
    Allocates v.upper v.memory v.strategy v.cpu.bx o (Ok n) m →
    t ≡ (answered v (record v.cpu { ax = n }) m false).state → Allocation s (going t)
allocation-served s v o n m t e p a h =
    let b = subst (λ q. Allocates v.upper v.memory v.strategy v.cpu.bx q (Ok n) m) p a in
    subst (λ w. Allocation w (going t)) e (record { result = Ok n; memory = m; allocates = b; answer = ap going h })

pub allocation-refused : (s v : State) (o : ℕ) (e : ArenaRefusal) (m : Memory) (c : Cpu) (t : State) → v ≡ s →
    o ≡ v.processes.present → Allocates v.upper v.memory v.strategy v.cpu.bx o (Err e) m → c ≡ refused v.cpu e →
    t ≡ (answered v c m true).state → Allocation s (going t)
allocation-refused s v o e m c t is p a g h =
    let b = subst (λ q. Allocates v.upper v.memory v.strategy v.cpu.bx q (Err e) m) p a in
    subst (λ w. Allocation w (going t)) is (record {
      result = Err e;
      memory = m;
      allocates = b;
      answer = ap going h ∙ ap (λ d. answered v d m true) g;
    })

pub freeing-served : (s v : State) (n : Unit {0}) (m : Memory) (t : State) → v ≡ s →
    Frees v.upper v.memory v.cpu.es (Ok n) m → t ≡ (answered v v.cpu m false).state → Freeing s (going t)
freeing-served s v n m t e a h = subst (λ w. Freeing w (going t)) e (record {
  result = Ok n;
  memory = m;
  frees = a;
  answer = ap going h;
})

pub freeing-refused : (s v : State) (e : ArenaRefusal) (m : Memory) (c : Cpu) (t : State) → v ≡ s →
    Frees v.upper v.memory v.cpu.es (Err e) m → c ≡ refused v.cpu e → t ≡ (answered v c m true).state →
    Freeing s (going t)
freeing-refused s v e m c t is a g h = subst (λ w. Freeing w (going t)) is (record {
  result = Err e;
  memory = m;
  frees = a;
  answer = ap going h ∙ ap (λ d. answered v d m true) g;
})

-- the same, where registers stand beside the parts
pub allocation-served-on : (s v : State) (o w n : ℕ) (m : Memory) (k : Cpu) (t : State) → v ≡ s →
    o ≡ v.processes.present → w ≡ v.cpu.bx → Allocates v.upper v.memory v.strategy w o (Ok n) m →
    k ≡ record v.cpu { ax = n } → t ≡ (answered v k m false).state → Allocation s (going t)
allocation-served-on s v o w n m k t e p i a g h =
    allocation-served s v o n m t e p (subst (λ q. Allocates v.upper v.memory v.strategy q o (Ok n) m) i a) (h
    ∙ ap (λ (d : Cpu). (answered v d m false).state) g)

pub allocation-refused-on : (s v : State) (o w : ℕ) (e : ArenaRefusal) (m : Memory) (k : Cpu) (t : State) → v ≡ s →
    o ≡ v.processes.present → w ≡ v.cpu.bx → Allocates v.upper v.memory v.strategy w o (Err e) m → k ≡ refused v.cpu e →
    t ≡ (answered v k m true).state → Allocation s (going t)
allocation-refused-on s v o w e m k t is p i a g h =
    allocation-refused s v o e m k t is p (subst (λ q. Allocates v.upper v.memory v.strategy q o (Err e) m) i a) g h

pub freeing-served-on : (s v : State) (w : ℕ) (n : Unit {0}) (m : Memory) (t : State) → v ≡ s → w ≡ v.cpu.es →
    Frees v.upper v.memory w (Ok n) m → t ≡ (answered v v.cpu m false).state → Freeing s (going t)
freeing-served-on s v w n m t e i a h = freeing-served s v n m t e (subst (λ q. Frees v.upper v.memory q (Ok n) m) i a)
    h

pub freeing-refused-on : (s v : State) (w : ℕ) (e : ArenaRefusal) (m : Memory) (k : Cpu) (t : State) → v ≡ s →
    w ≡ v.cpu.es → Frees v.upper v.memory w (Err e) m → k ≡ refused v.cpu e → t ≡ (answered v k m true).state →
    Freeing s (going t)
freeing-refused-on s v w e m k t is i a g h =
    freeing-refused s v e m k t is (subst (λ q. Frees v.upper v.memory q (Err e) m) i a) g h

pub resizing-served : (s v : State) (n : Unit {0}) (m : Memory) (t : State) → v ≡ s →
    Resizes v.upper v.memory v.cpu.es v.cpu.bx (Ok n) m → t ≡ (answered v v.cpu m false).state → Resizing s (going t)
resizing-served s v n m t e a h = subst (λ w. Resizing w (going t)) e (record {
  result = Ok n;
  memory = m;
  resizes = a;
  answer = ap going h;
})

pub resizing-refused : (s v : State) (e : ArenaRefusal) (m : Memory) (c : Cpu) (t : State) → v ≡ s →
    Resizes v.upper v.memory v.cpu.es v.cpu.bx (Err e) m → c ≡ refused v.cpu e → t ≡ (answered v c m true).state →
    Resizing s (going t)
resizing-refused s v e m c t is a g h = subst (λ w. Resizing w (going t)) is (record {
  result = Err e;
  memory = m;
  resizes = a;
  answer = ap going h ∙ ap (λ d. answered v d m true) g;
})

pub linking-served : (s v : State) (on : Bool) (n : Unit {0}) (m : Memory) (t : State) → v ≡ s →
    Links v.memory on (Ok n) m → t ≡ (answered v v.cpu m false).state → Linking on s (going t)
linking-served s v on n m t e a h = subst (λ w. Linking on w (going t)) e (record {
  result = Ok n;
  memory = m;
  links = a;
  answer = ap going h;
})
