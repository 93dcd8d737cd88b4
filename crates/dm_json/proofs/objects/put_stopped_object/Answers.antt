use Rattle.std.specs.Prelude.{codes}
use Rattle.dm_findings.specs.Sites.{site_of}
use Rattle.dm_reports.specs.Stops.{reason_text}
use Rattle.dm_json.specs.Objects.{object_end, opening, site_members, stopped_object, string_member, what_members}
use Rattle.dm_reports.proofs.Puts.{behind, ends_with}
use Rattle.dm_json.proofs.objects.put_stopped_object.Goals as goal

pub returns : goal.returns
unfolding stopped_object
returns c =
    let old = c.args.out.now.items in
    let m = c.args.space.now.memory in
    let cpu = c.args.cpu.now in
    let why = behind old (opening (codes "stopped")) (string_member (codes "reason") (reason_text c.args.stop)) _ _
    c.in_ok-put_opening.ensures (rw c.reason_of.ensures at c.in_ok-put_string_member.ensures) in
    let place = behind old _ (site_members (site_of m cpu)) _ _ why (rw (
      c.site_of.ensures,
      c.call_of.ensures,
    ) at c.in_ok-put_site_members.ensures) in
    let what = behind old _ (what_members c.args.stop m cpu) _ _ place c.in_ok-put_what_members.ensures in
    ends_with c.extend_from_slice.result old _ object_end _ _ _ what c.extend_from_slice.ensures.items
