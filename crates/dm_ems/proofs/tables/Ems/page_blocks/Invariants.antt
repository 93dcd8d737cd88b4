use Rattle.std.proofs.Common.{◌≡◌, ◌≤◌, take, map}
use Rattle.std.specs.Prelude.{filter}
use Rattle.arrayvec.specs.ArrayVec.{array_vec_len}
use Rattle.dm_ems.specs.declared.tables.Page.{Page}
use Rattle.dm_ems.specs.Tables.{is_of}
use Rattle.dm_ems.proofs.tables.Ems.page_blocks.Given as goal

abbrev pub invariant-loop-page : goal.invariant-loop-page
invariant-loop-page l =
    (array_vec_len l.blocks ≤ l.page-index)
    × (l.blocks.items ≡ map (λ (page : Page). page.block) (filter (is_of l.handle) (take l.page-index l.page-items)))
