use Rattle.std.specs.Prelude.{codes}
use Rattle.dm_views.specs.Digits.{four_digits}
use Rattle.dm_reports.proofs.Puts.{behind, ends_with}
use Rattle.dm_reports.proofs.texts.put_other_freed.Goals as goal

pub returns : goal.returns
returns c =
    let old = c.args.out.now.items in
    let block = behind old (codes "block at ") (four_digits c.args.at) _ _ c.in_ok-extend_from_slice.ensures.items
    (rw c.word_digits.ensures at c.in_ok-extend_from_slice-2.ensures.items) in
    let of = behind old _ (codes " of process ") _ _ block c.in_ok-extend_from_slice-3.ensures.items in
    let owner = behind old _ (four_digits c.args.owner) _ _ of (rw c.word_digits-2.ensures at
    c.in_ok-extend_from_slice-4.ensures.items) in
    ends_with c.extend_from_slice-5.result old _ (codes " freed") _ _ _ owner c.extend_from_slice-5.ensures.items
