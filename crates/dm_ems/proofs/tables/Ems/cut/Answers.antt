use Rattle.std.proofs.Common.{◌≡◌, sym, ◌∙◌, ap, take, arith}
use Rattle.dm_space.specs.Memory.{Held}
use Rattle.dm_ems.specs.Tables.{Expanded, expanded, forgotten, forgotten_all}
use Rattle.dm_ems.proofs.Consistent.{forgotten_all_more, consistent_forget}
use Rattle.dm_ems.proofs.tables.Ems.cut.Goals as goal

pub loop-block-preserved : goal.loop-block-preserved
loop-block-preserved c =
    let x : Expanded = expanded c.loop-block.self c.loop-block.space.memory in
    let blocks = c.behind-block-items.result.now in
    let block = c.block-item.result in
    let start : Expanded = expanded c.args.self.now c.args.space.now.memory in
    let e : expanded c.forget.new.self c.forget.new.space.memory ≡ forgotten x block = c.forget.ensures.left in (
      e ∙ ap (λ y. forgotten y block) c.loop-block.invariant.0
          ∙ ap (forgotten (forgotten_all start (take c.loop-block.block-index blocks))) c.block-item.is
          ∙ sym (forgotten_all_more start blocks c.loop-block.block-index block (omega arith)),
      c.forget.ensures.kept ∙ ap (λ (s : Held). record s { memory = c.forget.new.space.memory })
          c.loop-block.invariant.1,
      rw e (consistent_forget x block c.loop-block.invariant.2),
    )
