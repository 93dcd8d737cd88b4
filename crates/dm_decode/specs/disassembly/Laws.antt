-- The law of listings (`IsListing`): there is only one of the same bytes.
use Rattle.std.specs.Prelude.{◌≡◌, ℕ, List}
use Rattle.dm_decode.specs.disassembly.Listing.{IsListing}

-- the bytes of a program have one listing: two listings of the same bytes are equal
abbrev pub BytesHaveOneListing : Type 0
BytesHaveOneListing = (bytes a b : List ℕ) → IsListing bytes a → IsListing bytes b → a ≡ b
