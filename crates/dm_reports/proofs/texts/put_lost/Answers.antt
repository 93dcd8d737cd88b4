use Rattle.std.specs.Prelude.{codes, decimal}
use Rattle.dm_views.specs.Digits.{address_text}
use Rattle.dm_reports.proofs.Puts.{behind, ends_with}
use Rattle.dm_reports.proofs.texts.put_lost.Goals as goal

pub returns : goal.returns
returns c =
    let old = c.args.out.now.items in
    let byte = behind old (codes "writes ") (address_text c.args.segment c.args.offset) _ _
    c.in_ok-extend_from_slice.ensures.items c.in_ok-put_address.ensures in
    let place = behind old _ (codes " in window ") _ _ byte c.in_ok-extend_from_slice-2.ensures.items in
    let window = behind old _ (decimal c.args.window) _ _ place c.in_ok-put_number.ensures in
    ends_with c.extend_from_slice-3.result old _ (codes ", which shows no page") _ _ _ window
    c.extend_from_slice-3.ensures.items
