use Rattle.std.proofs.Common.{None, get_or, sym, ap, ◌∙◌, arith}
use Rattle.dm_pool.specs.Stored.{Stored}
use Rattle.dm_pool.proofs.store.Store.has.Goals as goal

pub returns : goal.returns
returns c =
    let same = ap (λ (s : Stored). get_or s.blocks.places c.slot.result None) c.self.view_is
    ∙ ap (λ i. get_or c.args.self.now.blocks.places i None) c.slot.ensures.value in (
      λ t. let h = c.has.ensures.0 t in (
        omega (arith, c.slot.ensures.small, c.slot.ensures.value),
        (h.0, sym same ∙ h.1),
      ),
      λ live. c.has.ensures.1 (live.1.0, same ∙ live.1.1),
    )
