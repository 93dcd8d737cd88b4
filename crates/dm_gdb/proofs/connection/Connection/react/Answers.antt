use Rattle.dm_gdb.proofs.Telling.{on_ok_one, sent_after}
use Rattle.dm_gdb.proofs.connection.Connection.react.Goals as goal

pub returns : goal.returns
returns c = on_ok_one c.hear.result _ _ (λ h. (
  h.0,
  sent_after _ _ _ _ _ c.in_ok-acknowledge.ensures h.1,
  h.2,
)) c.hear.ensures
