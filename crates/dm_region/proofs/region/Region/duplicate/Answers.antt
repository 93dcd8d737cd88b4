use Rattle.std.proofs.Common.{◌≡◌, ◌-◌, sym, ap, ◌∙◌, subst}
use Rattle.std.specs.Result.{IfOk}
use Rattle.dm_region.specs.Holes.{Holed}
use Rattle.dm_region.specs.Parts.{part}
use Rattle.dm_region.proofs.Holes.{whole_of}
use Rattle.dm_region.proofs.region.Region.duplicate.Goals as goal

pub returns : goal.returns
returns c =
    let r = c.self.inside in let inv = c.self.invariant in let xs = c.part-front.result.now in let ys =
    c.part-back.result.now in
    let first = c.part-front.ensures ∙ ap (λ (h : Holed). part h.bytes 0 r.from) (sym c.self.view_is) in
    let last = c.part-back.ensures ∙ ap (λ (h : Holed). part h.bytes r.to (r.len - r.to)) (sym c.self.view_is) in
    subst (λ (h : Holed). IfOk c.filled.result (λ region. region ≡ h)) (whole_of r.cells.slots r.from r.to r.len xs ys
    inv.holed inv.ordered inv.within inv.length_is first last ∙ c.self.view_is) c.filled.ensures
