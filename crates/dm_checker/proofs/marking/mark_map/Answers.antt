use Rattle.dm_checker.proofs.Levels.{map_made}
use Rattle.dm_checker.proofs.marking.mark_map.Goals as goal

pub returns : goal.returns
returns c =
    map_made c.args.windows.now c.args.high _ _ _ _ _ _ _ _ c.mark.ensures c.mark_window.ensures.keeps
    c.mark_window.ensures.marked c.mark_window-2.ensures.keeps c.mark_window-2.ensures.marked
    c.mark_window-3.ensures.keeps c.mark_window-3.ensures.marked c.mark_window-4.ensures.keeps
    c.mark_window-4.ensures.marked c.mark-2.ensures c.mark-3.ensures
