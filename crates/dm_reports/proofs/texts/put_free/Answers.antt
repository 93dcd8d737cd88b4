use Rattle.std.specs.Prelude.{codes}
use Rattle.dm_views.specs.Digits.{four_digits, address_text}
use Rattle.dm_reports.proofs.Puts.{behind, ends_with}
use Rattle.dm_reports.proofs.texts.put_free.Goals as goal

pub returns : goal.returns
returns c =
    let old = c.args.out.now.items in
    let byte = behind old c.args.verb.now (address_text c.args.segment c.args.offset) _ _
    c.in_ok-extend_from_slice.ensures.items c.in_ok-put_address.ensures in
    let place = behind old _ (codes " in the free block at ") _ _ byte c.in_ok-extend_from_slice-2.ensures.items in
    ends_with c.extend_from_slice-3.result old _ (four_digits c.args.block) _ _ _ place
    (rw c.word_digits.ensures at c.extend_from_slice-3.ensures.items)
