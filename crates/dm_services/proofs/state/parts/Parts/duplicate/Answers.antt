use Rattle.std.proofs.Common.{◌≡◌, ◌≤◌, ◌∙◌, ℕ, List, length, sym, subst}
use Rattle.dm_proc.specs.Processes.{Processes}
use Rattle.dm_services.specs.state.inner.State.{HaveSegments}
use Rattle.dm_services.proofs.state.parts.Parts.duplicate.Goals as goal

pub invariant_of-result : goal.invariant_of-result
invariant_of-result c =
    let same : c.in_ok-variables.variables.items ≡ c.self.inside.variables.items = c.in_ok-variables.ensures.items
    ∙ c.as_slice.ensures.value in (
      subst (λ (xs : List ℕ). length xs ≤ 0x7FFF) (sym same) c.self.invariant.0,
      subst (λ (p : Processes). HaveSegments p.parents) (sym c.duplicate-6.ensures) c.self.invariant.1,
    )
