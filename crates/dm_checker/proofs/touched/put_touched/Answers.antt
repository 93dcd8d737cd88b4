use Rattle.std.proofs.Common.{ℕ, Bool, ◌++◌, map, Option, ◌∙◌, ap, subst}
use Rattle.std.proofs.lemmas.Result.{on_ok_weaker}
use Rattle.dm_ins.specs.declared.ins.Ins.{Ins}
use Rattle.dm_touches.specs.Elements.{bytes_of}
use Rattle.dm_touches.specs.Found.{of_headers}
use Rattle.dm_checker.specs.ArenaCopy.{header_of, broken_at}
use Rattle.dm_checker.specs.inner.Steps.{IsNextAct}
use Rattle.dm_checker.proofs.Touching.{touches_none, touches_some}
use Rattle.dm_checker.proofs.touched.put_touched.Goals as goal

pub returns-in_default : goal.returns-in_default
returns-in_default c =
    let s = c.args.machine.now in
    let F : Option (Ins × ℕ) → Type 0 = λ o. IsNextAct s o in
    touches_none s c.args.kept.now c.args.out.now.items (subst F c.in_default.is (c.instruction.ensures s c.requires))

pub returns : goal.returns
returns c =
    let s = c.args.machine.now in
    let w = c.args.kept.now in
    let rs = c.touched-touched.result.reads in
    let ws = c.touched-touched.result.writes in
    let out = c.args.out.now.items in
    let F : Option (Ins × ℕ) → Type 0 = λ o. IsNextAct s o in
    let next = subst F c.in-Some.is (c.instruction.ensures s c.requires) in
    let first = c.in_ok-put_of_headers.ensures ∙ ap (λ (b : Bool). out
    ++ of_headers b (bytes_of rs) (bytes_of ws) (broken_at w.broken) (map header_of w.headers.items))
    c.a20.ensures.a20 in
    on_ok_weaker c.put_of_places.result (λ e. touches_some s w c.in-Some.ins c.in-Some.len c.args.before.now.cpu
    c.space-space.result.now.memory rs ws out c.put_of_headers.new.out.items c.put_of_places.new.out.items next
    c.requires.cpu c.space-space.ensures c.touched-touched.ensures.reads c.touched-touched.ensures.writes first e)
    c.put_of_places.ensures
