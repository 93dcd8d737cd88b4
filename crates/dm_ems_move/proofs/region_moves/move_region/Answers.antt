use Rattle.std.proofs.Common.{◌≤◌, length, subst}
use Rattle.dm_ems.specs.declared.tables.Page.{Page}
use Rattle.std.proofs.Common.{List}
use Rattle.dm_ems.specs.Tables.{expanded}
use Rattle.dm_ems_move.proofs.Regions.{regions-inside}
use Rattle.dm_ems_move.proofs.region_moves.move_region.Goals as goal

pub move_between-requires-clause-from : goal.move_between-requires-clause-from
move_between-requires-clause-from c =
    let a = c.args in
    let few = subst (λ (ps : List Page). length ps ≤ 512) c.pages-pages.ensures.pages c.pages-pages.ensures.few in
    (regions-inside (expanded a.ems.now a.space.now.memory) a.segment a.offset c.length_at-len.result (
      c.in-Ok.from,
      c.in-Ok.to,
    ) c.requires few c.in-Ok.ensures).from

pub move_between-requires-clause-to : goal.move_between-requires-clause-to
move_between-requires-clause-to c =
    let a = c.args in
    let few = subst (λ (ps : List Page). length ps ≤ 512) c.pages-pages.ensures.pages c.pages-pages.ensures.few in
    (regions-inside (expanded a.ems.now a.space.now.memory) a.segment a.offset c.length_at-len.result (
      c.in-Ok.from,
      c.in-Ok.to,
    ) c.requires few c.in-Ok.ensures).to
