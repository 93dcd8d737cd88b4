-- What a whole stream holds.
-- Source: GDB manual, "GDB Remote Serial Protocol", "Overview" and "Interrupts".
use Rattle.std.specs.Prelude.{◌≡◌, ◌≢◌, ⊤, ℕ, List, [], ◌∷◌, ◌++◌, All, Option, Some, None, nat_le, length, if◌then◌else◌}
use Rattle.std.specs.Option.{option_to_list}
use Rattle.dm_requests.specs.declared.packets.received.Received.{Received}
use Rattle.dm_requests.specs.packets.Reading.{Reading, after_byte, received, lone_byte, packet_of}

-- what is read from the rest of a stream that stands at r, byte by byte
abbrev pub read_from : Reading → List ℕ → List Received
read_from r [] = []
read_from r (b ∷ bs) = option_to_list (received r b) ++ read_from (after_byte r b) bs

-- where a stream that stood at r stands after these bytes
abbrev pub after_all : Reading → List ℕ → Reading
after_all r [] = r
after_all r (b ∷ bs) = after_all (after_byte r b) bs

-- the byte is part of a packet's content: it is neither `$` nor `#`
abbrev pub IsContent : ℕ → Type 0
IsContent b = (b ≢ 36) × (b ≢ 35)

-- a content of at most 4000h bytes; None if it is longer
abbrev pub if_short : List ℕ → Option (List ℕ)
if_short content = if nat_le (length content) 0x4000 then Some content else None

-- the text is empty, or begins with `$`
abbrev pub BeginsAnew : List ℕ → Type 0
BeginsAnew [] = ⊤
BeginsAnew (b ∷ bs) = b ≡ 36

-- what the text of a stream holds, in order: packets, each from a `$` to its second check digit, and what bytes between
-- packets mean. A packet that the next `$` or the end of the stream cuts off is nothing
pub data Holds : List ℕ → List Received → Type 0 where
  ended : Holds [] []
  lone : (b : ℕ) (text : List ℕ) (told : List Received) → b ≢ 36 → Holds text told →
      Holds (b ∷ text) (option_to_list (lone_byte b) ++ told)
  packet : (content text : List ℕ) (high low : ℕ) (told : List Received) → All IsContent content → high ≢ 36 →
      low ≢ 36 → Holds text told
      → Holds (36 ∷ content ++ 35 ∷ high ∷ low ∷ text) (packet_of (if_short content) high low ∷ told)
  cut : (content text : List ℕ) (told : List Received) → All IsContent content → BeginsAnew text → Holds text told →
      Holds (36 ∷ content ++ text) told
  cut_before_digits : (content text : List ℕ) (told : List Received) → All IsContent content → BeginsAnew text →
      Holds text told
      → Holds (36 ∷ content ++ 35 ∷ text) told
  cut_in_digits : (content text : List ℕ) (high : ℕ) (told : List Received) → All IsContent content → high ≢ 36 →
      BeginsAnew text → Holds text told
      → Holds (36 ∷ content ++ 35 ∷ high ∷ text) told
