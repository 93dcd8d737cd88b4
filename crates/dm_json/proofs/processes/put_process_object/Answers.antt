use Rattle.std.specs.Prelude.{codes}
use Rattle.dm_findings.specs.processes.Processes.{name_text}
use Rattle.dm_json.specs.Objects.{object_end, number_member, opening, string_member}
use Rattle.dm_json.specs.Processes.{last_member, process_object}
use Rattle.dm_reports.proofs.Puts.{behind, ends_with}
use Rattle.dm_json.proofs.processes.put_process_object.Goals as goal

pub returns : goal.returns
unfolding process_object
returns c =
    let old = c.args.out.now.items in
    let p = c.args.process.now in
    let prefix = behind old (opening (codes "process")) (number_member (codes "process") p.prefix) _ _
    c.in_ok-put_opening.ensures c.in_ok-put_number_member.ensures in
    let name = behind old _ (string_member (codes "name") (name_text p)) _ _ prefix
    (rw c.name.ensures at c.in_ok-put_string_member.ensures) in
    let parent = behind old _ (number_member (codes "parent") p.parent) _ _ name c.in_ok-put_number_member-2.ensures in
    let first = behind old _ (number_member (codes "first") p.first) _ _ parent c.in_ok-put_number_member-3.ensures in
    let last = behind old _ (last_member p.last) _ _ first c.in_ok-put_last_member.ensures in
    ends_with c.extend_from_slice.result old _ object_end _ _ _ last c.extend_from_slice.ensures.items
