use Rattle.std.proofs.Common.{◌∙◌, ap, inl, inr, false, length, subst, sym, arith}
use Rattle.std.proofs.lemmas.List.{get_or-replicate, length-set}
use Rattle.dm_space.specs.inner.Shifts.{AreShifts}
use Rattle.dm_space.proofs.Shifts.{none_known, ram_set}
use Rattle.dm_space.proofs.space.first_shifts.Goals as goal

pub loop-k-init : goal.loop-k-init
loop-k-init c = λ places windows.
    none_known false places windows _ (λ k l. get_or-replicate 68 k 0x8000000000000000 0 l)

pub loop-k-preserved : goal.loop-k-preserved
loop-k-preserved c = λ places windows.
    subst (AreShifts false places windows) (sym c.put_shift.ensures)
    (ram_set false places windows c.loop-k.shifts c.loop-k.k (omega (arith, c.loop-k-test.true))
    (sym (length-set c.loop-k.shifts c.loop-k.k 0) ∙ ap length (sym c.put_shift.ensures) ∙ c.type_inv.shifts)
    (inl (omega (arith, c.loop-k-test.true))) (c.loop-k.invariant places windows))

pub loop-k-2-preserved : goal.loop-k-2-preserved
loop-k-2-preserved c = λ places windows.
    subst (AreShifts false places windows) (sym c.put_shift-in-loop-k-2.ensures)
    (ram_set false places windows c.loop-k-2.shifts c.loop-k-2.k (omega (arith, c.loop-k-2-test.true))
    (sym (length-set c.loop-k-2.shifts c.loop-k-2.k 0) ∙ ap length (sym c.put_shift-in-loop-k-2.ensures)
    ∙ c.type_inv.shifts) (inr (inl (omega (arith, c.loop-k-2.auto.k), omega (arith, c.loop-k-2-test.true))))
    (c.loop-k-2.invariant places windows))
