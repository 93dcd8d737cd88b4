-- The sending side: acknowledgements, and the last packet.
-- Source: GDB manual, "GDB Remote Serial Protocol", "Overview" and "Packet Acknowledgment".
use Rattle.std.specs.Prelude.{ℕ, Bool, true, false, List, [], codes}
use Rattle.dm_requests.specs.declared.packets.received.Received.{Received}
use Rattle.dm_requests.specs.declared.packets.received.Received.TheVariants.{Packet, Damaged, TooLong, Interrupt, Again}

-- whether packets are acknowledged, and the bytes of the last packet that was made
pub record SendingState : Type 0 where
  pub acknowledges : Bool
  pub last : List ℕ

-- what is sent at once for what was received, if packets are acknowledged
abbrev pub receipt : Received → List ℕ
receipt (Packet payload) = codes "+"
receipt TooLong = codes "+"
receipt Damaged = codes "-"
receipt Interrupt = []
receipt Again = []

-- what is sent at once for what was received; nothing once acknowledgements have stopped
abbrev pub acknowledgement : Bool → Received → List ℕ
acknowledgement true r = receipt r
acknowledgement false r = []
