use Rattle.std.proofs.Common.{sym}
use Rattle.dm_ems.specs.Tables.{expanded}
use Rattle.dm_ems.proofs.Consistent.{mapped_page}
use Rattle.dm_host.proofs.host.Host.read_page.Goals as goal

pub bytes-requires : goal.bytes-requires
bytes-requires c = rw c.space.ensures ((mapped_page (expanded c.in-Some.machine.now.ems c.in-Some.machine.now.memory)
    c.args.handle c.args.page c.in-Some-page.block
    c.tables_and_memory_are_consistent.ensures.ems (sym (rw c.ems-2.ensures at c.in-Some-page.ensures))).0)
