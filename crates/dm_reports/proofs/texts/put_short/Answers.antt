use Rattle.std.specs.Prelude.{codes, decimal}
use Rattle.dm_reports.specs.Texts.{count_text}
use Rattle.dm_reports.proofs.Puts.{behind, ends_with}
use Rattle.dm_reports.proofs.texts.put_short.Goals as goal

pub returns : goal.returns
returns c =
    let old = c.args.out.now.items in
    let asked = behind old (codes "refused with code 08h, not enough memory: ") (count_text c.args.asked
    (codes "paragraph")) _ _ c.in_ok-extend_from_slice.ensures.items c.in_ok-put_counted.ensures in
    let wanted = behind old _ (codes " wanted, ") _ _ asked c.in_ok-extend_from_slice-2.ensures.items in
    let largest = behind old _ (decimal c.args.largest) _ _ wanted c.in_ok-put_number.ensures in
    ends_with c.extend_from_slice-3.result old _ (codes " available") _ _ _ largest c.extend_from_slice-3.ensures.items
