use Rattle.std.proofs.Common.{◌≡◌, ◌++◌, OnOk, sym, subst}
use Rattle.std.specs.Prelude.{codes, decimal}
use Rattle.std.proofs.lemmas.Result.{on_ok_weaker}
use Rattle.dm_reports.specs.Processes.{steps_text}
use Rattle.dm_reports.proofs.Puts.{behind}
use Rattle.dm_reports.proofs.processes.put_steps.Goals as goal

pub returns-in_ok-extend_from_slice-in-None : goal.returns-in_ok-extend_from_slice-in-None
returns-in_ok-extend_from_slice-in-None c =
    subst (λ last. OnOk c.put_number.result (c.put_number.new.out.items ≡ c.args.out.now.items
    ++ steps_text c.args.first last)) (sym c.in-None.is)
    (on_ok_weaker c.put_number.result (λ e. behind c.args.out.now.items (codes ", from step ")
    (decimal c.args.first) _ _ c.in_ok-extend_from_slice-in-None.ensures.items e) c.put_number.ensures)
