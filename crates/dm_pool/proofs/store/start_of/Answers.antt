use Rattle.std.proofs.Common.{◌+◌, ◌*◌, subst, sym, refl}
use Rattle.dm_pool.specs.declared.part.Part.{Part}
use Rattle.dm_pool.specs.inner.Parts.{IsSpan}
use Rattle.dm_pool.proofs.store.start_of.Goals as goal

pub returns-in-Low-clause-span : goal.returns-in-Low-clause-span
returns-in-Low-clause-span c =
    (0x110000, subst (λ (p : Part). IsSpan c.args.table.now p 0 0x110000) (sym c.in-Low.is) (refl, refl))

pub returns-in-Scratch-clause-span : goal.returns-in-Scratch-clause-span
returns-in-Scratch-clause-span c =
    (0x200000, subst (λ (p : Part). IsSpan c.args.table.now p 0x110000 0x200000) (sym c.in-Scratch.is) (refl, refl))

pub returns-in-Block-clause-span : goal.returns-in-Block-clause-span
returns-in-Block-clause-span c = (
  c.place_of.result.units * 1024,
  subst (λ (p : Part). IsSpan c.args.table.now p (0x310000 + c.place_of.result.base * 1024)
      (c.place_of.result.units * 1024)) (sym c.in-Block.is) (c.place_of.result, c.place_of.ensures.place, refl, refl),
)
