use Rattle.std.proofs.Common.{◌≡◌, ◌+◌, ◌-◌, ◌≤◌, ℕ, List, length, refl, sym, ap, ◌∙◌, arith}
use Rattle.std.proofs.lemmas.List.{length-map}
use Rattle.std.specs.List.{copy_within}
use Rattle.dm_region.specs.Holes.{Holed}
use Rattle.dm_region.specs.Parts.{part, with_part}
use Rattle.dm_region.specs.inner.Places.{or_zero}
use Rattle.dm_region.proofs.Parts.{copied_part, part_in, part_rewritten}
use Rattle.dm_region.proofs.Written.{part_length, refill_whole}
use Rattle.dm_region.proofs.region.Region.copy.Goals as goal

pub overflow_add-span : goal.overflow_add-span
overflow_add-span c =
    let r = c.self.inside in let long = ap (λ (h : Holed). length h.bytes) c.self.view_is in
    record {
      fits = omega (
        arith,
        c.requires.source.0,
        c.requires.destination.0,
        long,
        length-map r.cells.slots or_zero,
        c.self.invariant.length_is,
        c.self.invariant.fits,
      );
    }

pub overflow_add-first : goal.overflow_add-first
overflow_add-first c =
    let r = c.self.inside in let long = ap (λ (h : Holed). length h.bytes) c.self.view_is in
    record {
      fits = omega (
        arith,
        c.requires.source.0,
        c.requires.destination.0,
        long,
        length-map r.cells.slots or_zero,
        c.self.invariant.length_is,
        c.self.invariant.fits,
      );
    }

pub returns-then-behind-hole : goal.returns-then-behind-hole
returns-then-behind-hole c =
    let xs = c.args.self.now.bytes in let P = c.min-first.result in let N = c.max.result - P + c.args.len in let n =
    c.args.len in
    let f : ℕ = c.args.from - P in let t : ℕ = c.args.to - P in
    let fits : P + N ≤ length xs = omega (arith, c.requires.source.0, c.requires.destination.0) in
    let from : P + f ≡ c.args.from = omega arith in let to : P + t ≡ c.args.to = omega arith in
    let source : f + n ≤ N = omega arith in let destination : t + n ≤ N = omega arith in
    let old = part xs P N in let ws = part xs c.args.from n in
    let bytes : part old f n ≡ ws = part_in xs P N f n source ∙ ap (λ k. part xs k n) from in
    let new : c.copy_within.new.self ≡ with_part old t n ws
    = c.copy_within.ensures.after ∙ ap (λ (l : List ℕ). copy_within l f (f + n) t) c.part_mut.ensures.value
    ∙ copied_part old f t n n refl ∙ ap (with_part old t n) bytes in
    let long : length old ≡ N = part_length xs P N fits in
    let same : length c.copy_within.new.self ≡ N = c.copy_within.ensures.len ∙ ap length c.part_mut.ensures.value
    ∙ long in
    ap (λ (l : List ℕ). record c.args.self.now { bytes = l })
    (ap (with_part xs P N) (refill_whole N old c.copy_within.new.self same ∙ new)
    ∙ sym (part_rewritten xs ws P N t n destination fits) ∙ ap (λ k. with_part xs k n ws) to)
