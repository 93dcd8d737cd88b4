use Rattle.std.proofs.Common.{◌∙◌, ◌+◌, ◌≤◌, List, ℕ, sym, ap, refl, subst, arith, length}
use Rattle.std.proofs.lemmas.List.{length-map}
use Rattle.std.specs.List.{refill}
use Rattle.dm_region.specs.Holes.{Holed, IsOutside}
use Rattle.dm_region.specs.Parts.{part, with_part}
use Rattle.dm_region.specs.inner.Places.{or_zero}
use Rattle.dm_region.proofs.Holes.{run_off, left_holed, left_count, left_bytes}
use Rattle.dm_region.proofs.Runs.{bytes_in}
use Rattle.dm_region.proofs.region.Region.part_mut.Goals as goal

pub slice_mut-requires : goal.slice_mut-requires
slice_mut-requires c =
    let r = c.self.inside in let inv = c.self.invariant in
    let out = subst (λ (h : Holed). IsOutside h c.args.from c.args.len) (sym c.self.view_is) c.requires in (
      sym inv.cells_at,
      run_off r.cells.slots r.from r.to inv.holed c.args.from c.args.len (omega (
        arith,
        out.0,
        length-map r.cells.slots or_zero,
      )) out.1,
    )

pub invariant_of-self-lent : goal.invariant_of-self-lent
invariant_of-self-lent c = λ w.
    let r = c.self.inside in let inv = c.self.invariant in
    let out = subst (λ (h : Holed). IsOutside h c.args.from c.args.len) (sym c.self.view_is) c.requires in
    let fits : c.args.from + c.args.len ≤ length r.cells.slots =
    omega (arith, out.0, length-map r.cells.slots or_zero) in
    record {
      holed = left_holed r.cells.slots r.from r.to inv.holed c.args.from c.args.len w fits out.1;
      ordered = inv.ordered;
      within = inv.within;
      length_is = left_count r.cells.slots r.from r.to inv.holed c.args.from c.args.len w fits out.1 ∙ inv.length_is;
      fits = inv.fits;
      cells_at = inv.cells_at;
      deed_at = inv.deed_at;
      deed_len = inv.deed_len;
      deed_alloc = inv.deed_alloc;
    }

pub returns : goal.returns
returns c =
    let r = c.self.inside in let inv = c.self.invariant in let from = c.args.from in let len = c.args.len in
    let out = subst (λ (h : Holed). IsOutside h from len) (sym c.self.view_is) c.requires in
    let fits : c.args.from + c.args.len ≤ length r.cells.slots =
    omega (arith, out.0, length-map r.cells.slots or_zero) in (
      (
        refl,
        λ w.
            ap (λ (l : List ℕ). record { bytes = l; from = r.from; to = r.to })
            (left_bytes r.cells.slots r.from r.to inv.holed from len w fits out.1)
            ∙ ap (λ (h : Holed). record h { bytes = with_part h.bytes from len (refill len (part h.bytes from len) w) })
            c.self.view_is,
      ),
      record {
        writes_back = tt;
        value = sym (bytes_in r.cells.slots c.slice_mut.result.now from len
            c.slice_mut.ensures.value) ∙ ap (λ (h : Holed). part h.bytes from len) c.self.view_is;
      },
    )
