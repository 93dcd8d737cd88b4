use Rattle.std.proofs.Common.{sym, ◌∙◌}
use Rattle.dm_gdb.proofs.Telling.{on_ok_one, kept, silent, taken}
use Rattle.dm_gdb.proofs.connection.Connection.receive.Goals as goal

pub returns-in-Some : goal.returns-in-Some
returns-in-Some c =
    on_ok_one c.react.result _ _ (λ h. taken _ _ _ _ _ _ _ h.0 _ _ c.self.view_is (sym c.in_ok-received.ensures.received
    ∙ c.in-Some.is) c.in_ok-received.ensures.after h.1 h.2) c.react.ensures

pub returns-in-None : goal.returns-in-None
returns-in-None c = silent _ _ (kept _ _ _ _ _ c.self.view_is (sym c.in_ok-received.ensures.received
    ∙ c.in-None.is) c.in_ok-received.ensures.after)
