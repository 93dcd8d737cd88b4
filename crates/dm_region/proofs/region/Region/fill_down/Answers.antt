use Rattle.std.proofs.Common.{◌≡◌, ◌+◌, ◌-◌, ◌<◌, ◌≤◌, ℕ, List, Option, map, min, length, sym, ap, ◌∙◌, subst, arith}
use Rattle.dm_region.specs.Holes.{Holed}
use Rattle.dm_region.specs.inner.Places.{or_zero, IsHoled}
use Rattle.dm_region.proofs.Holes.{down_holed, down_length, down_bytes}
use Rattle.dm_region.proofs.region.Region.fill_down.Goals as goal

pub invariant_of-self : goal.invariant_of-self
invariant_of-self c =
    let r = c.self.inside in let inv = c.self.invariant in let n = r.to - c.args.start in
    let below : c.args.start < r.to = c.if-start-self.true in
    let from : r.from ≤ c.args.start = subst (λ (h : Holed). h.from ≤ c.args.start) (sym c.self.view_is) c.requires in
    let within : r.to ≤ length r.cells.slots = omega (arith, inv.within, inv.length_is) in
    let e : c.args.start + n ≡ r.to = omega (arith, below) in
    let new = c.put_zeros.ensures in
    record {
      holed = subst (λ (l : List (Option ℕ)). IsHoled l r.from c.args.start) (sym new.slots)
          (down_holed r.cells.slots r.from r.to inv.holed within n c.args.start e from);
      ordered = from;
      within = omega (arith, below, inv.within);
      length_is = ap length new.slots ∙ down_length r.cells.slots r.from r.to inv.holed within n c.args.start e from
          ∙ inv.length_is;
      fits = inv.fits;
      cells_at = new.at ∙ inv.cells_at;
      deed_at = inv.deed_at;
      deed_len = inv.deed_len;
      deed_alloc = inv.deed_alloc;
    }

pub returns-then-start-self : goal.returns-then-start-self
returns-then-start-self c =
    let r = c.self.inside in let inv = c.self.invariant in let n = r.to - c.args.start in
    let below : c.args.start < r.to = c.if-start-self.true in
    let from : r.from ≤ c.args.start = subst (λ (h : Holed). h.from ≤ c.args.start) (sym c.self.view_is) c.requires in
    let within : r.to ≤ length r.cells.slots = omega (arith, inv.within, inv.length_is) in
    let e : c.args.start + n ≡ r.to = omega (arith, below) in
    let least : c.args.start ≡ min r.to c.args.start = omega (arith, below) in
    ap (λ (l : List ℕ). record { bytes = l; from = r.from; to = c.args.start })
    (ap (map or_zero) c.put_zeros.ensures.slots ∙ down_bytes r.cells.slots r.from r.to inv.holed within n
    c.args.start e from)
    ∙ ap (λ (k : ℕ). record { bytes = map or_zero r.cells.slots; from = r.from; to = k }) least
    ∙ ap (λ (h : Holed). record h { to = min h.to c.args.start }) c.self.view_is
