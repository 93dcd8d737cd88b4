use Rattle.std.proofs.Common.{sym}
use Rattle.dm_ems.specs.Tables.{expanded}
use Rattle.dm_ems.proofs.Consistent.{mapped_page}
use Rattle.dm_ems.proofs.tables.Ems.map_page.Goals as goal

pub set_window-requires-in-Some-clause-page : goal.set_window-requires-in-Some-clause-page
set_window-requires-in-Some-clause-page c =
    mapped_page (expanded c.args.self.now c.args.space.now.memory) c.args.handle c.args.page c.in-Some.block c.requires
    (sym c.in-Some.ensures)
