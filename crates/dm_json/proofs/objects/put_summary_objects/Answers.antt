use Rattle.std.specs.Prelude.{codes}
use Rattle.std.specs.List.{flat_map}
use Rattle.dm_json.specs.Objects.{again_object, object_end, number_member, opening, summary_objects, omitted_object}
use Rattle.dm_reports.proofs.Puts.{behind, ends_with}
use Rattle.dm_json.proofs.objects.put_summary_objects.Goals as goal

pub returns : goal.returns
unfolding summary_objects
returns c =
    let old = c.args.out.now.items in
    let r = c.args.report.now in
    let out = behind old (flat_map again_object r.listed) (omitted_object r.omitted) _ _
    (rw c.listed.ensures at c.in_ok-put_all_again_objects.ensures)
    (rw c.omitted.ensures at c.in_ok-put_omitted_object.ensures) in
    let word = behind old _ (opening (codes "summary")) _ _ out c.in_ok-put_opening.ensures in
    let errors = behind old _ (number_member (codes "errors") r.errors) _ _ word
    (rw c.errors.ensures at c.in_ok-put_number_member.ensures) in
    let notes = behind old _ (number_member (codes "notes") r.notes) _ _ errors
    (rw c.notes.ensures at c.in_ok-put_number_member-2.ensures) in
    ends_with c.extend_from_slice.result old _ object_end _ _ _ notes c.extend_from_slice.ensures.items
