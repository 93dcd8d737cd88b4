use Rattle.std.proofs.Common.{◌≤◌, length, subst}
use Rattle.dm_ems.specs.declared.tables.Page.{Page}
use Rattle.std.proofs.Common.{List}
use Rattle.dm_ems.specs.Tables.{expanded}
use Rattle.dm_ems_move.proofs.Regions.{regions-inside}
use Rattle.dm_ems_move.proofs.region_moves.exchange_region.Goals as goal

pub exchange_between-requires-clause-from : goal.exchange_between-requires-clause-from
exchange_between-requires-clause-from c =
    let a = c.args in
    let few = subst (λ (ps : List Page). length ps ≤ 512) c.pages-pages.ensures.pages c.pages-pages.ensures.few in
    (regions-inside (expanded a.ems.now a.space.now.memory) a.segment a.offset c.length_at-len.result (
      c.in-Ok.from,
      c.in-Ok.to,
    ) c.requires few c.in-Ok.ensures).from

pub exchange_between-requires-clause-to : goal.exchange_between-requires-clause-to
exchange_between-requires-clause-to c =
    let a = c.args in
    let few = subst (λ (ps : List Page). length ps ≤ 512) c.pages-pages.ensures.pages c.pages-pages.ensures.few in
    (regions-inside (expanded a.ems.now a.space.now.memory) a.segment a.offset c.length_at-len.result (
      c.in-Ok.from,
      c.in-Ok.to,
    ) c.requires few c.in-Ok.ensures).to
