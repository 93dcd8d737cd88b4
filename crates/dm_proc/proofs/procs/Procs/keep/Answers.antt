use Rattle.std.proofs.Common.{Bool, ◌≡◌, ℕ, refl, subst, Result}
use Rattle.dm_space.specs.Memory.{Memory}
use Rattle.dm_arena.specs.declared.refusal.ArenaRefusal.{ArenaRefusal}
use Rattle.dm_arena.specs.Owned.{Resizes}
use Rattle.dm_proc.proofs.procs.Procs.keep.Goals as goal

resized-at : (up : Bool) (S T : Memory) (segment present n : ℕ) (r q : Result (Unit {0}) ArenaRefusal) →
    segment ≡ present → r ≡ q → Resizes up S segment n r T → Resizes up S present n q T
resized-at up S T segment present n r q f g h =
    let P : ℕ → Type 0 = λ k. Resizes up S k n r T in
    let Q : Result (Unit {0}) ArenaRefusal → Type 0 = λ s. Resizes up S present n s T in
    subst Q g (subst P f h)

pub returns-then-is_destroyed : goal.returns-then-is_destroyed
returns-then-is_destroyed c =
    let r = resized-at _ _ _ _ _ _ _ _ c.psp.ensures c.if-is_destroyed.ensures c.resize-answer.ensures.memory in
    (refl, refl, r.0, (refl, r.1))
