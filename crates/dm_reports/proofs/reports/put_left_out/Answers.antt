use Rattle.std.specs.Prelude.{codes}
use Rattle.std.proofs.Common.{◌∷◌, []}
use Rattle.dm_reports.specs.Texts.{count_text}
use Rattle.dm_reports.proofs.Puts.{behind, ends_with}
use Rattle.dm_reports.proofs.reports.put_left_out.Goals as goal

pub returns : goal.returns
returns c =
    let old = c.args.out.now.items in
    let number = behind old (codes "omitted: ") (count_text c.args.omitted (codes "finding")) _ _
    c.in_ok-extend_from_slice.ensures.items c.in_ok-put_counted.ensures in
    ends_with c.extend_from_slice-2.result old _ (10 ∷ []) _ _ _ number c.extend_from_slice-2.ensures.items
