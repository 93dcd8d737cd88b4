-- Parts of a step, in memory that is changed out of sight
use Rattle.std.proofs.Common.{◌≡◌, ℕ, suc, zero, ◌%◌, Bool, true, false, cond, List, [], ◌∷◌, refl, ◌∙◌, ap}
use Rattle.dm_space.specs.Memory.{Memory, peek, poke, linear}
use Rattle.dm_space.specs.Unseen.{IsUnseen}
use Rattle.dm_cpu.specs.declared.cpu.Cpu.{Cpu}
use Rattle.dm_cpu.specs.Guest.{guest}
use Rattle.dm_cpu.specs.Stack.{interrupt_return}
use Rattle.dm_cpu.proofs.Unseen.{interrupt_return-unseen}
use Rattle.dm_proc.specs.Writes.{bytes_from}
use Rattle.dm_services.specs.state.State.{Answer}
use Rattle.dm_space.specs.Buffers.{with_bytes}
use Rattle.dm_services.specs.inner.Laws.{answer_with}

pub byte-unseen : (f : Memory → Memory) (u : IsUnseen f) (m : Memory) (s o : ℕ) →
    peek (f m) (linear (f m).a20 s o) ≡ peek m (linear m.a20 s o)
byte-unseen f u m s o = ap (λ on. peek (f m) (linear on s o)) (u.a20 m) ∙ u.peek_same m (linear m.a20 s o)

pub bytes_from-unseen : (f : Memory → Memory) (u : IsUnseen f) (m : Memory) (s o n : ℕ) →
    bytes_from (f m) s o n ≡ bytes_from m s o n
bytes_from-unseen f u m s o zero = refl
bytes_from-unseen f u m s o (suc n) =
    ap (λ b. b ∷ bytes_from (f m) s (suc o) n) (byte-unseen f u m s (o % 65536))
    ∙ ap (λ (bytes : List ℕ). peek m (linear m.a20 s (o % 65536)) ∷ bytes) (bytes_from-unseen f u m s (suc o) n)

pub with_bytes-unseen : (f : Memory → Memory) (u : IsUnseen f) (m : Memory) (s o : ℕ) (bytes : List ℕ) →
    with_bytes (f m) s o bytes ≡ f (with_bytes m s o bytes)
unfolding with_bytes
with_bytes-unseen f u m s o [] = refl
with_bytes-unseen f u m s o (b ∷ bytes) =
    ap (λ on. with_bytes (poke (f m) (linear on s (o % 65536)) b) s (suc o) bytes) (u.a20 m)
    ∙ ap (λ (n : Memory). with_bytes n s (suc o) bytes) (u.poke_same m (linear m.a20 s (o % 65536)) b)
    ∙ with_bytes-unseen f u (poke m (linear m.a20 s (o % 65536)) b) s (suc o) bytes

-- by its parts, as `simp` finds them
pub return-parts : (f : Memory → Memory) (u : IsUnseen f) (c : Cpu) (m : Memory) →
    interrupt_return (guest c (f m)) ≡ record (interrupt_return (guest c m))
    { memory = f (interrupt_return (guest c m)).memory }
return-parts f u c m = interrupt_return-unseen f u (guest c m)

pub choice-unseen : (f : Memory → Memory) (b : Bool) (x y v w : Answer) → v ≡ answer_with f x → w ≡ answer_with f y →
    cond b v w ≡ answer_with f (cond b x y)
choice-unseen f true x y v w e h = e
choice-unseen f false x y v w e h = h
