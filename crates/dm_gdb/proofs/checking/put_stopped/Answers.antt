use Rattle.std.proofs.Common.{List, ℕ, [], ◌∷◌, ◌++◌, ◌∙◌, ap}
use Rattle.std.specs.Prelude.{codes}
use Rattle.dm_reports.proofs.Puts.{behind, ends_with}
use Rattle.dm_reports.specs.Stops.{reason_text}
use Rattle.dm_gdb.proofs.checking.put_stopped.Goals as goal

pub returns : goal.returns
returns c =
    let old = c.args.out.now.items in
    let said = c.in_ok-extend_from_slice-2.ensures.items ∙ ap (λ (l : List ℕ). c.extend_from_slice.new.self.items
    ++ l) c.reason_of.ensures in
    let why = behind old (codes "the program has stopped: ") (reason_text c.args.why) _ _
    c.in_ok-extend_from_slice.ensures.items said in
    ends_with c.extend_from_slice-3.result old _ (10 ∷ []) _ _ _ why c.extend_from_slice-3.ensures.items
