use Rattle.std.specs.Prelude.{codes, decimal}
use Rattle.dm_views.specs.Digits.{four_digits}
use Rattle.dm_reports.proofs.Puts.{behind, ends_with}
use Rattle.dm_reports.proofs.texts.put_tail.Goals as goal

pub returns : goal.returns
returns c =
    let old = c.args.out.now.items in
    let byte = behind old (codes "byte ") (decimal c.args.byte) _ _ c.in_ok-extend_from_slice.ensures.items
    c.in_ok-put_number.ensures in
    let place = behind old _ (codes " of the header at ") _ _ byte c.in_ok-extend_from_slice-2.ensures.items in
    let header = behind old _ (four_digits c.args.at) _ _ place (rw c.word_digits.ensures at
    c.in_ok-extend_from_slice-3.ensures.items) in
    ends_with c.extend_from_slice-4.result old _ (codes " written") _ _ _ header c.extend_from_slice-4.ensures.items
