use Rattle.std.proofs.Common.{◌≡◌, ◌-◌, ◌≤◌, length, replicate, subst, arith}
use Rattle.std.proofs.lemmas.List.{length-map}
use Rattle.dm_region.specs.Holes.{Holed}
use Rattle.dm_region.specs.Parts.{part}
use Rattle.dm_region.specs.inner.Places.{or_zero}
use Rattle.dm_region.proofs.Holes.{hole_zeros}
use Rattle.dm_region.proofs.region.Region.hole_start.Goals as goal

pub returns-clause-within : goal.returns-clause-within
returns-clause-within c =
    let r = c.self.inside in let inv = c.self.invariant in
    subst (λ (h : Holed). r.from ≤ length h.bytes) c.self.view_is (omega (
      arith,
      inv.ordered,
      inv.within,
      inv.length_is,
      length-map r.cells.slots or_zero,
    ))

pub returns-clause-zeros : goal.returns-clause-zeros
returns-clause-zeros c =
    let r = c.self.inside in let inv = c.self.invariant in
    subst (λ (h : Holed). part h.bytes r.from (h.to - r.from) ≡ replicate (h.to - r.from) 0) c.self.view_is
    (hole_zeros r.cells.slots r.from r.to inv.holed r.from (r.to - r.from) (omega arith) (omega (
      arith,
      inv.ordered,
    )) (omega (arith, inv.within, inv.length_is)))
