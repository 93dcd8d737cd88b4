use Rattle.std.proofs.Common.{Err, ap, inl, inr, refl, sym, ◌∙◌}
use Rattle.std.proofs.lemmas.Result.{IfOk-weaker, IfErr-weaker}
use Rattle.dm_cli.specs.Debugging.{no_command, no_room}
use Rattle.dm_cli.proofs.Told.{told_command, told_refusal, part_of_command, part_of_refusal, cut_at}
use Rattle.dm_cli.proofs.debugging.answer.Goals as goal

pub returns-in-Ok-clause-ok : goal.returns-in-Ok-clause-ok
returns-in-Ok-clause-ok g c =
    told_command _ _ _ _ _ (λ h. let e = c.in-Ok.ensures.syntax.1 h in cc) (λ h. let e = c.in-Ok.ensures.full.1 h in
    cc) c.in-Ok.ensures.ok

pub returns-in-Err-Syntax-clause-ok : goal.returns-in-Err-Syntax-clause-ok
returns-in-Err-Syntax-clause-ok g c =
    let is = ap Err c.in-Err-Syntax.field-0-is in
    let same = c.in-Err-Syntax.ensures.unchanged (inl is) in
    IfOk-weaker c.refuse.result _ _
    (λ v h. told_refusal _ _ _ _ _ _ _ (no_command (c.in-Err-Syntax.ensures.syntax.0 is)) same.0
    (ap g.W.Out.taken same.1) h) c.refuse.ensures.ok

pub returns-in-Err-Syntax-clause-err : goal.returns-in-Err-Syntax-clause-err
returns-in-Err-Syntax-clause-err g c =
    let is = ap Err c.in-Err-Syntax.field-0-is in
    let same = c.in-Err-Syntax.ensures.unchanged (inl is) in
    IfErr-weaker c.refuse.result _ _
    (λ e h. part_of_refusal _ _ _ _ _ _ _ _ _ e (no_command (c.in-Err-Syntax.ensures.syntax.0 is)) same.0
    (ap g.W.Out.taken same.1) (rw (← (ap g.W.Out.failures same.1)) h)) c.refuse.ensures.err

pub returns-in-Err-Full-clause-ok : goal.returns-in-Err-Full-clause-ok
returns-in-Err-Full-clause-ok g c =
    let is = ap Err c.in-Err-Full.field-0-is in
    let same = c.in-Err-Full.ensures.unchanged (inr is) in
    IfOk-weaker c.refuse-in-Err-Full.result _ _
    (λ v h. told_refusal _ _ _ _ _ _ _ (no_room (c.in-Err-Full.ensures.full.0 is)) same.0 (ap g.W.Out.taken same.1) h)
    c.refuse-in-Err-Full.ensures.ok

pub returns-in-Err-Full-clause-err : goal.returns-in-Err-Full-clause-err
returns-in-Err-Full-clause-err g c =
    let is = ap Err c.in-Err-Full.field-0-is in
    let same = c.in-Err-Full.ensures.unchanged (inr is) in
    IfErr-weaker c.refuse-in-Err-Full.result _ _
    (λ e h. part_of_refusal _ _ _ _ _ _ _ _ _ e (no_room (c.in-Err-Full.ensures.full.0 is)) same.0
    (ap g.W.Out.taken same.1) (rw (← (ap g.W.Out.failures same.1)) h)) c.refuse-in-Err-Full.ensures.err

pub returns-in-Err-Memory-clause-err : goal.returns-in-Err-Memory-clause-err
returns-in-Err-Memory-clause-err g c =
    let h = c.in-Err-Memory.ensures.memory (ap Err c.in-Err-Memory.field-0-is) in
    cut_at _ _ _ _ _ _ _ h.0 (ap g.W.Out.taken h.1) (ap g.W.Out.failures h.1)

pub returns-in-Err-Write-clause-err : goal.returns-in-Err-Write-clause-err
returns-in-Err-Write-clause-err g c =
    let is = ap Err c.in-Err-Write.field-0-is in
    part_of_command _ _ _ _ _ _ _ _ (λ h. let e = sym is ∙ c.in-Err-Write.ensures.syntax.1 h in cc) (λ h. let e = sym is
    ∙ c.in-Err-Write.ensures.full.1 h in cc)
    (c.in-Err-Write.ensures.write is).0 (c.in-Err-Write.ensures.write is).1 refl
