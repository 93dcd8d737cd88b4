use Rattle.std.specs.Prelude.{codes, decimal}
use Rattle.dm_reports.specs.Texts.{found_text, repeated_line}
use Rattle.std.proofs.Common.{◌∷◌, []}
use Rattle.dm_reports.proofs.Puts.{behind, ends_with}
use Rattle.dm_reports.proofs.texts.put_repeated.Goals as goal

pub returns : goal.returns
unfolding repeated_line
returns c =
    let old = c.args.out.now.items in
    let l = c.args.listed.now in
    let text = behind old (codes "again: ") (found_text l.found) _ _ c.in_ok-extend_from_slice.ensures.items
    c.in_ok-put_text.ensures in
    let colon = behind old _ (codes ": ") _ _ text c.in_ok-extend_from_slice-2.ensures.items in
    let more = behind old _ (decimal l.more) _ _ colon c.in_ok-put_number.ensures in
    let last = behind old _ (codes " more, the last at step ") _ _ more c.in_ok-extend_from_slice-3.ensures.items in
    let step = behind old _ (decimal l.last) _ _ last c.in_ok-put_number-2.ensures in
    ends_with c.extend_from_slice-4.result old _ (10 ∷ []) _ _ _ step c.extend_from_slice-4.ensures.items
