use Rattle.std.proofs.Common.{◌≡◌, Ok, sym}
use Rattle.std.specs.Prelude.{◌==◌}
use Rattle.dm_ems.specs.Tables.{expanded, blocks_of}
use Rattle.dm_ems.proofs.Consistent.{shown_pages}
use Rattle.dm_ems_move.specs.Many.{after_pairs}
use Rattle.dm_ems_move.proofs.Shown.{after_shown}
use Rattle.dm_ems_move.proofs.many.map_many.Goals as goal

pub set_windows-requires : goal.set_windows-requires
set_windows-requires c =
    let a = c.args in
    let x = expanded a.ems.now a.space.now.memory in
    let is : after_pairs a.space.now.memory (blocks_of a.ems.now a.handle) (a.mode == 1) a.segment a.offset a.count
    ≡ Ok c.in-Ok.windows =
    rw (← c.page_blocks-blocks.ensures, ← c.as_slice.ensures.value) (sym c.in-Ok.ensures) in
    shown_pages x c.requires c.in-Ok.windows (after_shown x a.handle (a.mode == 1) a.segment a.offset a.count
    c.in-Ok.windows c.requires is)
