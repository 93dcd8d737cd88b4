-- Reading a stream byte by byte: where it stands after each byte, and what is complete with it.
-- Source: GDB manual, "GDB Remote Serial Protocol", "Overview" and "Interrupts". The bound of 4000h bytes is this
-- server's own.
use Rattle.std.specs.Prelude.{ℕ, ◌==◌, if◌then◌else◌, List, [], ◌∷◌, ◌++◌, length, Option, Some, None}
use Rattle.std.specs.Option.{option_map_or}
use Rattle.dm_requests.specs.declared.packets.received.Received.{Received}
use Rattle.dm_requests.specs.declared.packets.received.Received.TheVariants.{Packet, Damaged, TooLong, Interrupt, Again}
use Rattle.dm_requests.specs.packets.Checks.{checksum_of, is_checked}
use Rattle.dm_requests.specs.packets.Escapes.{unescaped}

-- where a stream stands: between packets; or after the bytes of a packet that follow its `$`; or after its `#`; or
-- after its first check digit. A packet's content is its bytes between `$` and `#`; None if they are more than 4000h
pub data Reading : Type 0 where
  between : Reading
  within : Option (List ℕ) → Reading
  checked : Option (List ℕ) → Reading
  half : Option (List ℕ) → ℕ → Reading

-- a packet's content and one more byte
abbrev pub one_more : Option (List ℕ) → ℕ → Option (List ℕ)
one_more None b = None
one_more (Some content) b = if length content == 0x4000 then None else Some (content ++ b ∷ [])

-- a packet that is not too long, by its content and its check digits: damaged if these are wrong, or if the content
-- ends in an escape
abbrev pub whole_packet : List ℕ → ℕ → ℕ → Received
whole_packet content high low =
    if is_checked (checksum_of content) high low then option_map_or Packet (unescaped content) Damaged else Damaged

-- a packet, by its content and its check digits
abbrev pub packet_of : Option (List ℕ) → ℕ → ℕ → Received
packet_of None high low = TooLong
packet_of (Some content) high low = whole_packet content high low

-- what a byte between packets means, other than `$`: 03h asks for a stop, `-` for the last packet once more; None for
-- any other
abbrev pub lone_byte : ℕ → Option Received
lone_byte b = if b == 3 then Some Interrupt else if b == 45 then Some Again else None

-- where a stream stands after one more byte, other than `$`
abbrev pub after_other : Reading → ℕ → Reading
after_other between b = between
after_other (within content) b = if b == 35 then checked content else within (one_more content b)
after_other (checked content) b = half content b
after_other (half content high) b = between

-- what is complete with one more byte, other than `$`
abbrev pub received_other : Reading → ℕ → Option Received
received_other between b = lone_byte b
received_other (within content) b = None
received_other (checked content) b = None
received_other (half content high) b = Some (packet_of content high b)

-- where a stream stands after one more byte: `$` begins a packet wherever it stands
abbrev pub after_byte : Reading → ℕ → Reading
after_byte r b = if b == 36 then within (Some []) else after_other r b

-- what is complete with one more byte; None if nothing is
abbrev pub received : Reading → ℕ → Option Received
received r b = if b == 36 then None else received_other r b
