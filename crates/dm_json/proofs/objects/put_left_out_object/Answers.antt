use Rattle.std.specs.Prelude.{codes}
use Rattle.dm_json.specs.Objects.{object_end, number_member, opening}
use Rattle.dm_reports.proofs.Puts.{behind, ends_with}
use Rattle.dm_json.proofs.objects.put_left_out_object.Goals as goal

pub returns : goal.returns
returns c =
    let old = c.args.out.now.items in
    let count = behind old (opening (codes "omitted")) (number_member (codes "findings") c.args.omitted) _ _
    c.in_ok-put_opening.ensures c.in_ok-put_number_member.ensures in
    ends_with c.extend_from_slice.result old _ object_end _ _ _ count c.extend_from_slice.ensures.items
