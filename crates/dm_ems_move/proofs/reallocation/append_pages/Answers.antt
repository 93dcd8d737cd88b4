use Rattle.std.proofs.Common.{◌≡◌, sym, ◌∙◌, ap, arith, length}
use Rattle.dm_space.specs.Memory.{Held}
use Rattle.dm_ems.specs.Tables.{Expanded, expanded, appended_page}
use Rattle.dm_ems.proofs.Consistent.{appended_more, one_page, same_total}
use Rattle.dm_ems_move.proofs.reallocation.append_pages.Goals as goal

pub loop-preserved : goal.loop-preserved
loop-preserved c =
    let x : Expanded = expanded c.loop.ems c.loop.space.memory in
    let handle = c.args.handle in
    let e : expanded c.append.new.self c.append.new.space.memory ≡ appended_page x handle = c.append.ensures.left in
    let f : length c.append.new.self.pages ≡ length (appended_page x handle).ems.pages =
    ap (λ (y : Expanded). length y.ems.pages) e in (
      e ∙ ap (λ y. appended_page y handle) c.loop.invariant.0
          ∙ sym (appended_more (expanded c.args.ems.now c.args.space.now.memory) handle c.loop.counter),
      c.append.ensures.kept ∙ ap (λ (s : Held). record s { memory = c.append.new.space.memory }) c.loop.invariant.1,
      omega (arith, f, one_page x handle, c.loop.invariant.2),
      ap (λ (y : Expanded). y.ems.total) e ∙ same_total x handle ∙ c.loop.invariant.3,
    )
