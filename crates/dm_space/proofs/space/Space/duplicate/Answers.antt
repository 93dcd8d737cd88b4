use Rattle.std.proofs.Common.{◌≡◌, List, Option, ℕ, sym, ap, ◌∙◌, subst}
use Rattle.dm_pool.specs.Stored.{Stored}
use Rattle.dm_space.specs.Memory.{Held, IsHeld}
use Rattle.dm_space.specs.inner.Memory.{held}
use Rattle.dm_space.specs.inner.Shifts.{AreShifts}
use Rattle.dm_space.proofs.space.Space.duplicate.Goals as goal

pub invariant_of-result : goal.invariant_of-result
invariant_of-result c =
    let s = c.self.inside in
    let windows : c.windows-windows.result ≡ s.windows = c.windows-windows.ensures.value
    ∙ sym (ap (λ (h : Held). h.memory.windows) c.self.view_is) in
    subst (λ (v : Stored). IsHeld (held v c.windows-windows.result s.a20) ×
    AreShifts s.a20 v.blocks.places c.windows-windows.result s.shifts) (sym c.in_ok-store.ensures)
    (subst (λ (w : List (Option ℕ)). IsHeld (held s.store w s.a20) × AreShifts s.a20 s.store.blocks.places w s.shifts)
    (sym windows) c.self.invariant)
