use Rattle.dm_findings.specs.Findings.{is_error}
use Rattle.dm_reports.specs.Texts.{kind_text}
use Rattle.dm_json.specs.Objects.{object_end, found_members, found_object, opening}
use Rattle.dm_reports.proofs.Puts.{behind, ends_with}
use Rattle.dm_json.proofs.objects.put_found_object.Goals as goal

pub returns : goal.returns
unfolding found_object
returns c =
    let old = c.args.out.now.items in
    let f = c.args.found.now in
    let members = behind old (opening (kind_text (is_error f.finding))) (found_members f) _ _
    (rw c.severity_word.ensures at c.in_ok-put_opening.ensures) c.in_ok-put_members.ensures in
    ends_with c.extend_from_slice.result old _ object_end _ _ _ members c.extend_from_slice.ensures.items
