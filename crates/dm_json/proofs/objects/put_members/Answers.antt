use Rattle.std.specs.Prelude.{codes}
use Rattle.std.proofs.lemmas.Result.{on_ok_weaker}
use Rattle.dm_reports.specs.Texts.{told_text}
use Rattle.dm_json.specs.Objects.{act_members, detail_members, found_members, kind_word, number_member, origin_member, site_members, string_member}
use Rattle.dm_reports.proofs.Puts.{behind}
use Rattle.dm_json.proofs.objects.put_members.Goals as goal

pub returns : goal.returns
unfolding found_members
returns c =
    let old = c.args.out.now.items in
    let f = c.args.found.now in
    let kind = string_member (codes "kind") (kind_word f.finding) in
    let first = rw (c.word_of.ensures) at c.in_ok-put_string_member.ensures in
    let step = behind old kind (number_member (codes "step") f.step) _ _ first c.in_ok-put_number_member.ensures in
    let process = behind old _ (number_member (codes "process") f.process) _ _ step
    c.in_ok-put_number_member-2.ensures in
    let site = behind old _ (site_members f.site) _ _ process c.in_ok-put_site_members.ensures in
    let act = behind old _ (act_members f.act) _ _ site c.in_ok-put_act_members.ensures in
    let details = behind old _ (detail_members f.finding) _ _ act c.in_ok-put_details.ensures in
    let origin = behind old _ (origin_member f.finding f.origin) _ _ details c.in_ok-put_origin_member.ensures in
    on_ok_weaker c.put_text_member.result (λ e. behind old _ (string_member (codes "text") (told_text f)) _ _ origin e)
    c.put_text_member.ensures
