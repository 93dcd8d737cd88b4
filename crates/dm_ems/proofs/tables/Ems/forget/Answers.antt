use Rattle.std.proofs.Common.{sym}
use Rattle.dm_ems.specs.Tables.{expanded}
use Rattle.dm_ems.proofs.Owned.{shows_unmapped}
use Rattle.dm_ems.proofs.Consistent.{placed_page}
use Rattle.dm_ems.proofs.tables.Ems.forget.Goals as goal

pub give-requires-clause-live : goal.give-requires-clause-live
give-requires-clause-live c =
    rw c.unmap.ensures (placed_page (expanded c.args.self.now c.args.space.now.memory) c.args.block c.in-Some.at
    c.requires (sym c.in-Some.ensures.first)).0

pub give-requires-clause-hidden : goal.give-requires-clause-hidden
give-requires-clause-hidden c = rw c.unmap.ensures (shows_unmapped c.args.block c.args.space.now.memory.windows)
