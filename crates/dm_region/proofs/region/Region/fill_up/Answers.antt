use Rattle.std.proofs.Common.{◌≡◌, ◌+◌, ◌-◌, ◌<◌, ◌≤◌, ℕ, List, Option, map, max, length, sym, ap, ◌∙◌, subst, arith}
use Rattle.dm_region.specs.Holes.{Holed}
use Rattle.dm_region.specs.inner.Places.{or_zero, IsHoled}
use Rattle.dm_region.proofs.Holes.{up_holed, up_length, up_bytes}
use Rattle.dm_region.proofs.region.Region.fill_up.Goals as goal

pub invariant_of-self : goal.invariant_of-self
invariant_of-self c =
    let r = c.self.inside in let inv = c.self.invariant in let n = c.args.end - r.from in
    let below : r.from < c.args.end = c.if-self-end.true in
    let to : c.args.end ≤ r.to = subst (λ (h : Holed). c.args.end ≤ h.to) (sym c.self.view_is) c.requires in
    let within : r.to ≤ length r.cells.slots = omega (arith, inv.within, inv.length_is) in
    let e : r.from + n ≡ c.args.end = omega (arith, below) in
    let new = c.put_zeros.ensures in
    record {
      holed = subst (λ (l : List (Option ℕ)). IsHoled l c.args.end r.to) (sym new.slots)
          (up_holed r.cells.slots r.from r.to inv.holed within n c.args.end e to);
      ordered = to;
      within = inv.within;
      length_is = ap length new.slots ∙ up_length r.cells.slots r.from r.to inv.holed within n c.args.end e to
          ∙ inv.length_is;
      fits = inv.fits;
      cells_at = new.at ∙ inv.cells_at;
      deed_at = inv.deed_at;
      deed_len = inv.deed_len;
      deed_alloc = inv.deed_alloc;
    }

pub returns-then-self-end : goal.returns-then-self-end
returns-then-self-end c =
    let r = c.self.inside in let inv = c.self.invariant in let n = c.args.end - r.from in
    let below : r.from < c.args.end = c.if-self-end.true in
    let to : c.args.end ≤ r.to = subst (λ (h : Holed). c.args.end ≤ h.to) (sym c.self.view_is) c.requires in
    let within : r.to ≤ length r.cells.slots = omega (arith, inv.within, inv.length_is) in
    let e : r.from + n ≡ c.args.end = omega (arith, below) in
    let most : c.args.end ≡ max r.from c.args.end = omega (arith, below) in
    ap (λ (l : List ℕ). record { bytes = l; from = c.args.end; to = r.to }) (ap (map or_zero) c.put_zeros.ensures.slots
    ∙ up_bytes r.cells.slots r.from r.to inv.holed within n c.args.end e to)
    ∙ ap (λ (k : ℕ). record { bytes = map or_zero r.cells.slots; from = k; to = r.to }) most
    ∙ ap (λ (h : Holed). record h { from = max h.from c.args.end }) c.self.view_is
