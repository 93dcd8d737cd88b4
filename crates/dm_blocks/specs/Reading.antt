-- What the functions that read and search headers return: `header_at`, `spelled_header`, `find` and `before_link`.
use Rattle.std.specs.Prelude.{Bool, List, None, Option, Some, [], false, true, ℕ, ◌++◌, ◌+◌, ◌-◌, ◌<◌, ◌∷◌, ◌≡◌, ◌≢◌, ◌≤◌}
use Rattle.dm_space.specs.Memory.{Memory}
use Rattle.dm_blocks.specs.declared.header.Header.{Header}
use Rattle.dm_blocks.specs.declared.header.ListedHeader.{ListedHeader}
use Rattle.dm_blocks.specs.Chain.{IsHeader, IsNonEmpty, NoBlockAt, Spells, signature_byte, next, signature}

-- what is read at segment h: a header, and whether it is signed as the last one; None if no list can have a header
-- there, as the signature is neither `M` nor `Z`, or the segment after the block is over FFFFh
abbrev pub IsListedAt : Memory → ℕ → Option ListedHeader → Type 0
IsListedAt S h None = (b : Header) (L : List Header) → b.segment ≡ h → IsHeader S b (signature L) → ⊥
IsListedAt S h (Some e) = (e.header.segment ≡ h) × IsHeader S e.header (signature_byte e.last)

-- memory spells the list L from segment h on, and L has a header
pub record IsSpelledFrom (S : Memory) (h : ℕ) (L : List Header) : Type 0 where
  pub nonempty : IsNonEmpty L
  pub spells : Spells S h L

-- the list has no header
abbrev pub is_nil : List Header → Bool
is_nil [] = true
is_nil (b ∷ L) = false

-- e is the first header of L, the last if no other follows, and memory spells the other headers K after its block
pub record IsFront (S : Memory) (L : List Header) (e : ListedHeader) (K : List Header) : Type 0 where
  pub is : L ≡ e.header ∷ K
  pub last : e.last ≡ is_nil K
  pub rest : Spells S (next e.header) K

-- e is the header of L whose block begins at the segment; P are the headers before it, Q those after it, which memory
-- spells after its block
pub record IsFoundAt (S : Memory) (L : List Header) (segment : ℕ) (e : ListedHeader) (P Q : List Header) : Type 0 where
  pub is : L ≡ P ++ e.header ∷ Q
  pub at : e.header.segment + 1 ≡ segment
  pub last : e.last ≡ is_nil Q
  pub rest : Spells S (next e.header) Q

-- the result of a search of the list from segment start on for the block that begins at the segment; None if it has
-- none
abbrev pub FindsBlock : Memory → ℕ → ℕ → Option ListedHeader → Type 0
FindsBlock S start segment None = (L : List Header) → IsSpelledFrom S start L → NoBlockAt L segment
FindsBlock S start segment (Some e) = (L : List Header) → IsSpelledFrom S start L → (P : List Header) ×
    (Q : List Header) × IsFoundAt S L segment e P Q

-- no block of L ends at the segment
abbrev pub NoEndAt : List Header → ℕ → Type 0
NoEndAt [] segment = Unit {0}
NoEndAt (b ∷ L) segment = (next b ≢ segment) × NoEndAt L segment

-- e is the header of L whose block ends where the segment begins; P are the headers before it, Q those after it,
-- which memory spells after its block
pub record IsEndingAt (S : Memory) (L : List Header) (segment : ℕ) (e : ListedHeader) (P Q : List Header) : Type 0 where
  pub is : L ≡ P ++ e.header ∷ Q
  pub at : next e.header ≡ segment
  pub last : e.last ≡ is_nil Q
  pub rest : Spells S (next e.header) Q

-- the result of a search of the list from segment start on for the block that ends where the segment begins; None if
-- it has none
abbrev pub EndsBefore : Memory → ℕ → ℕ → Option ListedHeader → Type 0
EndsBefore S start segment None = (L : List Header) → IsSpelledFrom S start L → NoEndAt L segment
EndsBefore S start segment (Some e) = (L : List Header) → IsSpelledFrom S start L → (P : List Header) ×
    (Q : List Header) × IsEndingAt S L segment e P Q
