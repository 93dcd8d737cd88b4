use Rattle.std.specs.Prelude.{codes}
use Rattle.dm_json.specs.Objects.{object_end, found_members, number_member, opening, repeated_object}
use Rattle.dm_reports.proofs.Puts.{behind, ends_with}
use Rattle.dm_json.proofs.objects.put_repeated_object.Goals as goal

pub returns : goal.returns
unfolding repeated_object
returns c =
    let old = c.args.out.now.items in
    let l = c.args.listed.now in
    let members = behind old (opening (codes "again")) (found_members l.found) _ _ c.in_ok-put_opening.ensures
    c.in_ok-put_members.ensures in
    let more = behind old _ (number_member (codes "more") l.more) _ _ members c.in_ok-put_number_member.ensures in
    let last = behind old _ (number_member (codes "last") l.last) _ _ more c.in_ok-put_number_member-2.ensures in
    ends_with c.extend_from_slice.result old _ object_end _ _ _ last c.extend_from_slice.ensures.items
