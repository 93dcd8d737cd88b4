use Rattle.std.proofs.Common.{inl, inr, arith}
use Rattle.dm_pool.proofs.store.Store.new.Goals as goal

pub returns-in-Ok-clause-too_large : goal.returns-in-Ok-clause-too_large
returns-in-Ok-clause-too_large c = (
  λ h. let z : ⊥ = cc in absurd z,
  λ large. elim large [
    | inl a ↦
        absurd (omega (arith, a, c.if-sizes-gt512.false))
    | inr b ↦ absurd (omega (arith, b, c.if-sizes-gt15360.false))
  ],
)
