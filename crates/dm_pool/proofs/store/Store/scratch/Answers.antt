use Rattle.std.proofs.Common.{◌-◌, ◌++◌, ℕ, List, length, inl, sym, ◌∙◌, ap, arith}
use Rattle.dm_region.proofs.Written.{part_length}
use Rattle.dm_pool.specs.Stored.{Stored, zeros_of}
use Rattle.dm_pool.proofs.Fresh.{scratch_split}
use Rattle.dm_pool.proofs.store.Store.scratch.Goals as goal

pub part-requires : goal.part-requires
part-requires c =
    let e = c.hole_start.ensures.value in let k = c.self.invariant in
    (omega (arith, c.hole_start.ensures.within, e, k.low), inl (omega (arith, e, k.low)))

pub returns-clause-value : goal.returns-clause-value
returns-clause-value c =
    let h = c.self.inside.region in let k = c.self.invariant in let n = c.hole_start.result in
    ap (λ (s : Stored). s.scratch) (sym c.self.view_is)
    ∙ scratch_split h.bytes n h.to (omega (arith, c.hole_start.ensures.value, k.low)) (omega (
      arith,
      c.hole_start.ensures.value,
      k.front,
    )) k.back (omega (arith, k.store.whole)) c.hole_start.ensures.zeros
    ∙ ap (λ (l : List ℕ). l ++ zeros_of (0x200000 - length l)) (sym c.part.ensures)

pub returns-clause-length : goal.returns-clause-length
returns-clause-length c = ap (λ (s : Stored). length s.scratch) (sym c.self.view_is)
    ∙ part_length c.self.inside.region.bytes 0x110000 0x200000 (omega (arith, c.self.invariant.store.whole))

pub returns-clause-within : goal.returns-clause-within
returns-clause-within c =
    let h = c.self.inside.region in let k = c.self.invariant in let n = c.hole_start.result in
    let long = ap length c.part.ensures ∙ part_length h.bytes 0x110000 (n - 0x110000) (omega (
      arith,
      c.hole_start.ensures.within,
      c.hole_start.ensures.value,
      k.low,
    )) in
    omega (arith, long, c.hole_start.ensures.value, k.front)
