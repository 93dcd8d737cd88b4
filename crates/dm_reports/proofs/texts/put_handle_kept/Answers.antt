use Rattle.std.specs.Prelude.{◌++◌, codes, decimal}
use Rattle.dm_reports.specs.Texts.{count_text, map_text}
use Rattle.dm_reports.proofs.Puts.{behind, ends_with}
use Rattle.dm_reports.proofs.texts.put_handle_kept.Goals as goal

pub returns : goal.returns
returns c =
    let old = c.args.out.now.items in
    let pages = behind old (codes "EMS handle " ++ decimal c.args.handle
    ++ codes ": ") (count_text c.args.pages (codes "page")) _ _ c.in_ok-put_count.ensures
    c.in_ok-put_counted.ensures in
    let freed = behind old _ (codes " not freed") _ _ pages c.in_ok-extend_from_slice.ensures.items in
    ends_with c.extend_from_slice-2.result old _ (map_text c.args.saved) _ _ _ freed
    (rw (c.map_of.ensures) at c.extend_from_slice-2.ensures.items)
