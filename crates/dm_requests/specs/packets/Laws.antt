-- Laws of streams.
use Rattle.std.specs.Prelude.{◌≡◌, ℕ, ◌≤◌, List, [], ◌∷◌, length}
use Rattle.dm_requests.specs.declared.packets.received.Received.TheVariants.{Packet}
use Rattle.dm_requests.specs.packets.Escapes.{escaped}
use Rattle.dm_requests.specs.packets.Frames.{frame_of}
use Rattle.dm_requests.specs.packets.Reading.{Reading, between}
use Rattle.dm_requests.specs.packets.Streams.{Holds, read_from, after_all}

-- the bytes are bytes
abbrev pub StreamsAreRead : Type 0
StreamsAreRead = (text : List ℕ) → Holds text (read_from between text)

-- wherever a stream stands, a packet that is sent whole is read, and what it carries is what was sent, if that takes at
-- most 4000h bytes; and then the stream stands between packets
abbrev pub FramesAreRead : Type 0
FramesAreRead = (r : Reading) (payload : List ℕ) → length (escaped payload) ≤ 0x4000 →
    (read_from r (frame_of payload) ≡ Packet payload ∷ []) × (after_all r (frame_of payload) ≡ between)
