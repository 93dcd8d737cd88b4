use Rattle.std.proofs.Common.{subst, inl, inr}
use Rattle.std.proofs.lemmas.Bool.{cases_lt}
use Rattle.dm_pool.specs.Blocks.{Blocks}
use Rattle.dm_space.specs.Start.{IsStart}
use Rattle.dm_machine.proofs.machine.start_space.Goals as goal

pub returns-in-Ok-clause-start : goal.returns-in-Ok-clause-start
returns-in-Ok-clause-start c = record {
  plain = c.new-space.result.memory;
  start = subst (λ (b : Blocks). IsStart b c.new-space.result.memory) c.in-Ok.ensures.blocks
      (c.new-space.ensures.start c.in-Ok.ensures.low);
  headers = c.write_headers.ensures;
}

pub returns-in-Ok-clause-too_large : goal.returns-in-Ok-clause-too_large
returns-in-Ok-clause-too_large c = (
  λ h. let z : ⊥ = cc in absurd z,
  λ large. let h = c.in-Ok.ensures.too_large.1 large in let z : ⊥ = cc in absurd z,
)

pub returns-in-Ok-clause-few : goal.returns-in-Ok-clause-few
returns-in-Ok-clause-few c = elim (cases_lt 512 c.args.sizes.ems_pages) [
  | inl large ↦ (let h = c.in-Ok.ensures.too_large.1 (inl large) in let z : ⊥ = cc in absurd z)
  | inr few ↦ few
]
