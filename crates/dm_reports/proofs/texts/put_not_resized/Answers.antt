use Rattle.std.specs.Prelude.{codes}
use Rattle.std.proofs.lemmas.Result.{on_ok_weaker}
use Rattle.dm_reports.specs.Texts.{count_text}
use Rattle.dm_reports.proofs.Puts.{behind}
use Rattle.dm_reports.proofs.texts.put_not_resized.Goals as goal

pub returns : goal.returns
returns c = on_ok_weaker c.put_counted.result (λ e. behind c.args.out.now.items (codes "block not resized to ")
    (count_text c.args.asked (codes "paragraph")) _ _ c.in_ok-extend_from_slice.ensures.items e) c.put_counted.ensures
