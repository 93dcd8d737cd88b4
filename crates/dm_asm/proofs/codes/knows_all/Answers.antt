use Rattle.std.proofs.Common.{arith, refl, IsSome}
use Rattle.dm_asm.specs.Labels.{label_place}
use Rattle.dm_asm.proofs.Each.{all_at, all_more, some_not_none, is_some_at}
use Rattle.dm_asm.proofs.codes.knows_all.Goals as goal

pub returns-in-None : goal.returns-in-None
returns-in-None c = λ list kept. (
  λ h. absurd cc,
  λ all. absurd (some_not_none _ (all_at (λ v. IsSome (label_place list v)) c.args.values.now c.loop-value.value-index
      _ _ (omega arith) refl all) (c.in-None.ensures.place list kept)),
)

pub loop-value-preserved : goal.loop-value-preserved
loop-value-preserved c = λ list kept. all_more (λ v. IsSome (label_place list v)) c.args.values.now
    c.loop-value.value-index _ _ (omega arith) refl (is_some_at _ _ (c.in-Some.ensures.place list kept))
    (c.loop-value.invariant list kept)
