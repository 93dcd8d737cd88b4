use Rattle.std.specs.Prelude.{codes, decimal}
use Rattle.dm_reports.specs.Texts.{lock_text}
use Rattle.std.proofs.Common.{◌++◌}
use Rattle.dm_reports.proofs.Puts.{behind, ends_with}
use Rattle.dm_reports.proofs.texts.put_block_kept.Goals as goal

pub returns : goal.returns
returns c =
    let old = c.args.out.now.items in
    let number = behind old (codes "XMS handle " ++ decimal c.args.handle
    ++ codes ": ") (decimal c.args.kib) _ _ c.in_ok-put_count.ensures c.in_ok-put_number.ensures in
    let unit = behind old _ (codes " KiB not freed") _ _ number c.in_ok-extend_from_slice.ensures.items in
    ends_with c.extend_from_slice-2.result old _ (lock_text c.args.locked) _ _ _ unit
    (rw c.lock_of.ensures at c.extend_from_slice-2.ensures.items)
