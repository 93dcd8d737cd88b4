use Rattle.std.proofs.Common.{◌≡◌, ◌+◌, ◌*◌, max, length, sym, ap, ◌∙◌, arith}
use Rattle.std.proofs.Math.Bool.{false≢true}
use Rattle.dm_region.specs.Holes.{Holed}
use Rattle.dm_pool.specs.inner.Order.{Layout, no_layout}
use Rattle.dm_pool.proofs.Fresh.{low_zeros, scratch_zeros, none_units, none_blocks}
use Rattle.dm_pool.proofs.Stored.{length-zeros_of}
use Rattle.dm_pool.proofs.store.store_of.Goals as goal

pub fill_up-requires : goal.fill_up-requires
fill_up-requires c = omega (arith, ap (λ (h : Holed). h.to) c.in_ok-region.ensures)

pub invariant_of-result : goal.invariant_of-result
invariant_of-result c =
    let n = c.args.units in let t = c.new.result in
    let from = ap (λ (h : Holed). h.from) c.fill_up.ensures
    ∙ ap (λ (h : Holed). max h.from 0x110000) c.in_ok-region.ensures in
    let to = ap (λ (h : Holed). h.to) c.fill_up.ensures ∙ ap (λ (h : Holed). h.to) c.in_ok-region.ensures in
    let bytes = ap (λ (h : Holed). h.bytes) c.fill_up.ensures ∙ ap (λ (h : Holed). h.bytes) c.in_ok-region.ensures in
    let units : t.units ≡ n = ap (λ (l : Layout). l.units) c.new.ensures ∙ none_units n in
    let long = ap length bytes ∙ length-zeros_of (0x310000 + n * 1024) in
    record {
      store = record {
        whole = omega (arith, long, units);
        listed = ap (λ (l : Layout). l.places) c.new.ensures ∙ ap (λ k. (no_layout k).places) (sym units);
      };
      low = omega (arith, from);
      front = omega (arith, from);
      back = omega (arith, to);
      used = λ h. absurd (false≢true h);
    }

pub returns-clause-low : goal.returns-clause-low
returns-clause-low c =
    low_zeros (0x310000 + c.args.units * 1024) c.fill_up.new.self.bytes (ap (λ (h : Holed). h.bytes) c.fill_up.ensures
    ∙ ap (λ (h : Holed). h.bytes) c.in_ok-region.ensures) (omega arith)

pub returns-clause-scratch : goal.returns-clause-scratch
returns-clause-scratch c =
    scratch_zeros (0x310000 + c.args.units * 1024) c.fill_up.new.self.bytes
    (ap (λ (h : Holed). h.bytes) c.fill_up.ensures ∙ ap (λ (h : Holed). h.bytes) c.in_ok-region.ensures)
    (omega arith)

pub returns-clause-blocks : goal.returns-clause-blocks
returns-clause-blocks c =
    let t = c.new.result in
    none_blocks c.args.units t _ (ap (λ (l : Layout). l.units) c.new.ensures)
    (ap (λ (l : Layout). l.places) c.new.ensures)
