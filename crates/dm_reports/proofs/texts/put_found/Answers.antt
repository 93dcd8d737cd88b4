use Rattle.std.specs.Prelude.{codes}
use Rattle.dm_reports.specs.Texts.{kind_text, found_text, found_line}
use Rattle.dm_findings.specs.Findings.{is_error}
use Rattle.std.proofs.Common.{◌∷◌, []}
use Rattle.dm_reports.proofs.Puts.{behind, ends_with}
use Rattle.dm_reports.proofs.texts.put_found.Goals as goal

pub returns : goal.returns
unfolding found_line
returns c =
    let old = c.args.out.now.items in
    let f = c.args.found.now in
    let colon = behind old (kind_text (is_error f.finding)) (codes ": ") _ _
    (rw c.severity_word.ensures at c.in_ok-extend_from_slice.ensures.items)
    c.in_ok-extend_from_slice-2.ensures.items in
    let text = behind old _ (found_text f) _ _ colon c.in_ok-put_text.ensures in
    ends_with c.extend_from_slice-3.result old _ (10 ∷ []) _ _ _ text c.extend_from_slice-3.ensures.items
