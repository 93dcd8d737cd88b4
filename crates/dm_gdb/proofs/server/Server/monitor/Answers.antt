use Rattle.std.proofs.Common.{◌∙◌, sym, refl}
use Rattle.dm_gdb.specs.Servers.{helps, shows}
use Rattle.dm_gdb.proofs.Replying.{replies_as}
use Rattle.dm_gdb.proofs.server.Server.monitor.Goals as goal

pub returns-then-not-is_shown_line-clause-ok : goal.returns-then-not-is_shown_line-clause-ok
returns-then-not-is_shown_line-clause-ok c =
    λ most. helps c.args.line.now (sym c.step_of.ensures ∙ c.in_default.is) (sym c.is_check.ensures
    ∙ c.if-is_check.false) (sym c.is_shown_line.ensures ∙ c.if-not-is_shown_line.true)

pub returns-clause-ok : goal.returns-clause-ok
returns-clause-ok c =
    let h = c.in_ok-text.ensures in
    λ most. replies_as _ _ _ most _ _ _ _ (shows c.args.line.now h.command c.in_ok-text.text.items
    (sym c.step_of.ensures ∙ c.in_default.is) (sym c.is_check.ensures
    ∙ c.if-is_check.false) h.read h.shown h.displays) refl
    c.text_reply.ensures refl
