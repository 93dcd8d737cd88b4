use Rattle.std.specs.Prelude.{codes, decimal}
use Rattle.dm_json.specs.Objects.{member_text, number_member}
use Rattle.dm_reports.proofs.Puts.{behind, ends_with}
use Rattle.dm_json.proofs.members.put_contents_member.Goals as goal

pub returns : goal.returns
returns c =
    let old = c.args.out.now.items in
    let contents = c.args.contents in
    let brace = behind old (member_text c.args.name.now) (codes "{\"signature\":") _ _ c.in_ok-put_name.ensures
    c.in_ok-extend_from_slice.ensures.items in
    let signature = behind old _ (decimal contents.signature) _ _ brace c.in_ok-put_number.ensures in
    let owner = behind old _ (number_member (codes "owner") contents.owner) _ _ signature
    c.in_ok-put_number_member.ensures in
    let size = behind old _ (number_member (codes "size") contents.size) _ _ owner
    c.in_ok-put_number_member-2.ensures in
    ends_with c.extend_from_slice-2.result old _ (codes "}") _ _ _ size c.extend_from_slice-2.ensures.items
