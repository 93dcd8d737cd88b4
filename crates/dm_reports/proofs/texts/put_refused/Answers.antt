use Rattle.std.specs.Prelude.{codes}
use Rattle.dm_views.specs.Digits.{two_digits}
use Rattle.dm_reports.specs.Meanings.{meaning_text}
use Rattle.dm_reports.proofs.Puts.{behind, ends_with}
use Rattle.dm_reports.proofs.texts.put_refused.Goals as goal

pub returns : goal.returns
returns c =
    let old = c.args.out.now.items in
    let code = behind old (codes "refused with code ") (two_digits c.args.code) _ _
    c.in_ok-extend_from_slice.ensures.items (rw c.byte_digits.ensures at c.in_ok-extend_from_slice-2.ensures.items)
    in
    let unit = behind old _ (codes "h") _ _ code c.in_ok-extend_from_slice-3.ensures.items in
    ends_with c.extend_from_slice-4.result old _ (meaning_text c.args.act.now c.args.code) _ _ _ unit
    (rw c.meaning_of.ensures at c.extend_from_slice-4.ensures.items)
