use Rattle.dm_host.proofs.Checked.{partly, as_part, whole}
use Rattle.dm_host.proofs.checks.checked.Goals as goal

pub returns-in_default : goal.returns-in_default
returns-in_default c = partly c.args.session c.from_parts.result _ _ _ c.args.n c.into_parts-machine.ensures.parts
    c.from_parts.ensures c.in_default.ensures.err

pub returns-in-Ok-told : goal.returns-in-Ok-told
returns-in-Ok-told c = let same = c.in-Ok-told.ensures.report in
    rw same (whole c.args.session c.from_parts-session.result _ _ _ c.args.n c.in-Ok.stop c.in-Ok-told.text.items
    c.in-Ok.report
    c.into_parts-machine.ensures.parts c.from_parts-session.ensures c.in-Ok.ensures.run c.in-Ok.ensures.report
    c.in-Ok-told.ensures.text)

pub returns : goal.returns
returns c = partly c.args.session c.from_parts-session.result _ _ _ c.args.n c.into_parts-machine.ensures.parts
    c.from_parts-session.ensures
    (as_part _ _ c.args.n c.in-Ok.stop c.in-Ok.ensures.run)
