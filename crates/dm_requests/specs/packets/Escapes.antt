-- Escapes: how a packet carries the bytes that have a meaning of their own in the stream.
-- Source: GDB manual, "GDB Remote Serial Protocol", "Overview" (binary data; in replies `*` is escaped too).
use Rattle.std.specs.Prelude.{ℕ, ◌==◌, ◌||◌, Bool, true, false, if◌then◌else◌, bit_xor, List, [], ◌∷◌, ◌++◌, Option, Some, None}
use Rattle.std.specs.List.{flat_map}

-- whether a byte is sent escaped: `#`, `$`, `*` and `}`
abbrev pub is_special : ℕ → Bool
is_special b = b == 35 || b == 36 || b == 42 || b == 125

-- a byte as a packet carries it: an escaped one is `}` and the byte exclusive-or 20h
abbrev pub escaped_byte : ℕ → List ℕ
escaped_byte b = if is_special b then 125 ∷ bit_xor b 32 ∷ [] else b ∷ []

-- bytes as a packet carries them
unfoldable pub escaped : List ℕ → List ℕ
escaped bytes = flat_map escaped_byte bytes

-- what the rest of a packet's content carries, with the bytes `front` before it; `is_escaped` if the byte before the
-- rest is an escape. None if the last byte of all is an escape
abbrev pub unescaped_behind : List ℕ → Bool → List ℕ → Option (List ℕ)
unescaped_behind front false [] = Some front
unescaped_behind front true [] = None
unescaped_behind front true (b ∷ bs) = unescaped_behind (front ++ bit_xor b 32 ∷ []) false bs
unescaped_behind front false (b ∷ bs) = if b == 125 then unescaped_behind front true bs else
    unescaped_behind (front ++ b ∷ []) false bs

-- what a packet's content carries: each byte after `}` exclusive-or 20h, other bytes as they are; None if the last byte
-- is an escape
unfoldable pub unescaped : List ℕ → Option (List ℕ)
unescaped content = unescaped_behind [] false content
