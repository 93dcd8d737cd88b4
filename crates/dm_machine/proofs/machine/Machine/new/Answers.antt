use Rattle.std.proofs.Common.{ap, length, refl, arith}
use Rattle.dm_proc.specs.Processes.{Processes}
use Rattle.dm_machine.proofs.Consistency.{consistent-start}
use Rattle.dm_machine.proofs.machine.Machine.new.Goals as goal

pub returns-in_default-clause-too_large : goal.returns-in_default-clause-too_large
returns-in_default-clause-too_large c = (
  λ h. let z : ⊥ = cc in absurd z,
  λ large. let h = c.in_ok-space.ensures.too_large.1 large in let z : ⊥ = cc in absurd z,
)

pub invariant_of-parts : goal.invariant_of-parts
invariant_of-parts c = (
  c.requires,
  let none = ap (λ (p : Processes). length p.parents) c.new-5.ensures in
      λ k d h. absurd (omega (arith, h, none)),
)

pub returns-clause-ok : goal.returns-clause-ok
returns-clause-ok c = record {
  memory = c.in_ok-space.ensures.start;
  others = rw (
    c.clear_registers.ensures,
    c.new-2.ensures,
    c.new-3.ensures,
    c.new-4.ensures,
    c.new-5.ensures,
  ) refl;
}

pub invariant_of-result : goal.invariant_of-result
invariant_of-result c = consistent-start _ _ _ _ _ _ (omega (arith, c.in_ok-space.ensures.few)) c.new-2.ensures
    c.new-3.ensures c.in_ok-space.ensures.start
