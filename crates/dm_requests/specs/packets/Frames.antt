-- The bytes of a packet as it is sent.
-- Source: GDB manual, "GDB Remote Serial Protocol", "Overview".
use Rattle.std.specs.Prelude.{ℕ, List, [], ◌∷◌, ◌++◌}
use Rattle.hex.specs.Hex.{encode_lower}
use Rattle.dm_requests.specs.packets.Checks.{checksum_of}
use Rattle.dm_requests.specs.packets.Escapes.{escaped}

-- the packet that carries these bytes: `$`, its content, `#`, and the checksum of the content in two hexadecimal digits
abbrev pub frame_of : List ℕ → List ℕ
frame_of payload = let content = escaped payload in 36 ∷ content ++ 35 ∷ encode_lower (checksum_of content ∷ [])
