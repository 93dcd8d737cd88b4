use Rattle.std.proofs.Common.{ℕ, None, sym, subst, get_or}
use Rattle.std.specs.Prelude.{IfSome}
use Rattle.dm_space.specs.Memory.{Held, IsPage}
use Rattle.dm_ems.specs.Tables.{expanded}
use Rattle.dm_ems.proofs.Consistent.{shown_pages}
use Rattle.dm_ems_move.specs.Maps.{map_entries}
use Rattle.dm_ems_move.proofs.Shown.{map_shown, written_consistent}
use Rattle.dm_ems_move.proofs.maps.whole_map.Goals as goal

pub set_windows-requires : goal.set_windows-requires
set_windows-requires c =
    let a = c.args in let x = expanded a.ems.now a.space.now.memory in
    shown_pages x c.requires c.in-Some.windows (map_shown a.ems.now a.space.now.memory a.from_segment a.from_offset
    c.in-Some.windows (sym c.in-Some.ensures))

pub set_windows-requires-2 : goal.set_windows-requires-2
set_windows-requires-2 c =
    let a = c.args in let x = expanded a.ems.now a.space.now.memory in
    let bytes = map_entries a.ems.now.pages a.space.now.memory.windows in
    subst (λ (h : Held). (k : ℕ) → IfSome (get_or c.in-Some.windows k None) (IsPage h.memory))
    (sym c.write_map-2.ensures)
    (shown_pages _ (written_consistent x a.to_segment a.to_offset bytes c.requires) c.in-Some.windows
    (map_shown a.ems.now a.space.now.memory a.from_segment a.from_offset c.in-Some.windows (sym c.in-Some.ensures)))
