use Rattle.std.proofs.Common.{ap, ◌∙◌}
use Rattle.dm_requests.specs.Requests.{request_of}
use Rattle.dm_gdb.specs.Connections.{damaged, asked_again}
use Rattle.dm_gdb.proofs.Telling.{on_ok_both, on_ok_one, heard_as, heard_packet, heard_long, heard_stop, silent}
use Rattle.dm_gdb.proofs.connection.Connection.hear.Goals as goal

pub returns-in_ok-request-in-Packet : goal.returns-in_ok-request-in-Packet
returns-in_ok-request-in-Packet c =
    on_ok_one c.obey.result _ _ (λ h. (
      h.0,
      h.1,
      heard_packet _ _ _ _ _ _ _ c.in-Packet.is (c.in_ok-request-in-Packet.ensures
          ∙ ap request_of c.as_slice.ensures) h.2,
    )) c.obey.ensures

pub returns-in-TooLong : goal.returns-in-TooLong
returns-in-TooLong c = on_ok_both c.send.result _ _ _ (λ sent last. heard_long _ _ _ _ _ _ c.in-TooLong.is sent last)
    c.send.ensures.sent c.send.ensures.last

pub returns-in-Damaged : goal.returns-in-Damaged
returns-in-Damaged c = silent _ _ (heard_as _ _ _ _ _ _ c.in-Damaged.is damaged)

pub returns-in-Interrupt : goal.returns-in-Interrupt
returns-in-Interrupt c = silent _ _ (heard_stop _ _ _ _ c.self-in-Interrupt.view_is c.in-Interrupt.is)

pub returns-in-Again : goal.returns-in-Again
returns-in-Again c = on_ok_one c.send_again.result _ _ (λ h. (_, h, heard_as _ _ _ _ _ _ c.in-Again.is asked_again))
    c.send_again.ensures
