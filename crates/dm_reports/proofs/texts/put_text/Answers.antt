use Rattle.std.specs.Prelude.{codes, decimal}
use Rattle.std.proofs.lemmas.Result.{on_ok_weaker}
use Rattle.dm_reports.specs.Texts.{site_text, act_text, told_text, found_text}
use Rattle.dm_reports.proofs.Puts.{behind}
use Rattle.dm_reports.proofs.texts.put_text.Goals as goal

pub returns : goal.returns
unfolding found_text
returns c =
    let old = c.args.out.now.items in
    let f = c.args.found.now in
    let step = behind old (codes "step ") (decimal f.step) _ _ c.in_ok-extend_from_slice.ensures.items
    c.in_ok-put_number.ensures in
    let comma = behind old _ (codes ", ") _ _ step c.in_ok-extend_from_slice-2.ensures.items in
    let site = behind old _ (site_text f.site) _ _ comma c.in_ok-put_site.ensures in
    let space = behind old _ (codes " ") _ _ site c.in_ok-extend_from_slice-3.ensures.items in
    let act = behind old _ (act_text f.act) _ _ space c.in_ok-put_act.ensures in
    let what = behind old _ (codes ": ") _ _ act c.in_ok-extend_from_slice-4.ensures.items in
    on_ok_weaker c.put_told.result (λ e. behind old _ (told_text f) _ _ what e) c.put_told.ensures
