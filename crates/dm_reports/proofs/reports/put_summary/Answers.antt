use Rattle.std.specs.Prelude.{codes, decimal}
use Rattle.std.specs.List.{flat_map}
use Rattle.std.proofs.Common.{◌∷◌, []}
use Rattle.dm_reports.specs.Reports.{again_line, omitted_line, summary_text}
use Rattle.dm_reports.proofs.Puts.{behind, ends_with}
use Rattle.dm_reports.proofs.reports.put_summary.Goals as goal

pub returns : goal.returns
unfolding summary_text
returns c =
    let old = c.args.out.now.items in
    let r = c.args.report.now in
    let out = behind old (flat_map again_line r.listed) (omitted_line r.omitted) _ _
    (rw c.listed.ensures at c.in_ok-put_all_again.ensures) (rw c.omitted.ensures at
    c.in_ok-put_omitted.ensures) in
    let errors = behind old _ (codes "errors: ") _ _ out c.in_ok-extend_from_slice.ensures.items in
    let number = behind old _ (decimal r.errors) _ _ errors (rw c.errors.ensures at c.in_ok-put_number.ensures) in
    let notes = behind old _ (codes ", notes: ") _ _ number c.in_ok-extend_from_slice-2.ensures.items in
    let count = behind old _ (decimal r.notes) _ _ notes (rw c.notes.ensures at c.in_ok-put_number-2.ensures) in
    ends_with c.extend_from_slice-3.result old _ (10 ∷ []) _ _ _ count c.extend_from_slice-3.ensures.items
